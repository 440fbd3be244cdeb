-- Section 2.2: the sheet at n places, n from 20 up, is a loose sheet. Every line is rounded down once, by less than
-- one unit, and one unit is at most K; the sizes are laws of the sheet. Assumes nothing.
use Rattle.std.specs.Prelude.{◌≡◌, true, ◌⊎◌}
use Rattle.std.proofs.Math.Path.{refl}
use Rattle.std.proofs.Math.Bool.{Bool}
use Rattle.std.proofs.Common.{inl, inr, mul-le-mul_left, le_trans, arith, pow_pos, pow_mono}
use Prim.Native.Nat.{ℕ, ◌+◌, ◌-◌, ◌*◌, ◌^◌, ◌≤◌, ◌<◌}
use Rattle.std.proofs.Math.Decide.{dec_le}
use Rattle.std.proofs.Math.IntN.{ℤ}
use Rattle.rounding.specs.Fraction.{fraction_weaken}
use Rattle.rounding.proofs.Theorems.Root.Laws.{le-root, root_weaken, sq}
use Rattle.rounding.specs.Signed.{∣◌∣, square, ◌·◌}
use Rattle.colour.specs.Conversion.{Lab}
use Rattle.sheet.specs.Settings.{Factor}
use Rattle.sheet.specs.Sheet.{chroma, chroma_of, change, same_hue, hue_change, semi_axis_c, hue_q, hue_w, hue_f, second_form}
use Rattle.sheet.specs.Sheet.{hue_m, hue_t, hue_p, hue_g, semi_axes_cielab, semi_axes_cie94, semi_axes_cmc, semi_axes}
use Rattle.sheet.proofs.Theorems.Sheet.Laws.{chroma-pos, le-hue_w, hue_w-pos, hue_f-le, hue_m-le, hue_t-le, le-hue_t, le-hue_g}
use Rattle.sheet.proofs.Theorems.Sheet.Laws.{hue_semi_axis-neutral, hue_semi_axis-chromatic, abs-change}
use Rattle.sheet.proofs.Theorems.Sheet.Facts.{semi_axes_at_least, divisors}
use Rattle.sheet.specs.declared.formula.Formula.{Formula}
use Rattle.sheet.specs.declared.formula.Formula.TheVariants.{CIELAB, CIE94, CMC}
use Rattle.finer.specs.Loose.{Loose, LooseHue, LooseCMC, LooseSemiAxes, LooseDifferences}
use Rattle.finer.specs.Loose.Sheets.{data_of, quantities}
use Rattle.finer.specs.Loose.Lines.{chroma-root, hue_change-root, dark-fraction, light-fraction}
use Rattle.finer.specs.Loose.Lines.{semi_axis_c-fraction, hue_q-fraction, hue_w-root, hue_f-fraction, hue_t-fraction}
use Rattle.finer.specs.Loose.Lines.{hue_p-fraction, hue_g-sum, semi_axis_h-fraction, semi_axis_c94-fraction}
use Rattle.finer.specs.Loose.Lines.{semi_axis_h94-fraction, component-fraction, component_h-fraction, total-root}
use Rattle.finer.specs.Loose.Lines.{pow-is-coarse, pow-add-seven}
use Rattle.finer.specs.Loose.Times.{finer_by, squares-times}

-- ---- what both sheets need

-- line 1: |ΔC| is the distance of the two chromas
pub change_cases : (R T : ℕ) → (∣ change R T ∣ + R ≡ T) ⊎ (∣ change R T ∣ + T ≡ R)
change_cases R T = either (dec_le R T)
  where
    either : Dec (R ≤ T) → (∣ change R T ∣ + R ≡ T) ⊎ (∣ change R T ∣ + T ≡ R)
    either (yes h) = inl (omega (arith, abs-change R T))
    either (no h) = inr (omega (arith, abs-change R T))

pub hue_change_same : (D² : ℕ) (ΔC x y : ℤ) → same_hue x y ≡ true → ∣ hue_change D² ΔC x y ∣ ≡ 0
unfolding hue_change
hue_change_same D² ΔC x y h = rw h

-- 43² is below 1900
pub 43_le_hue_w : (n Q : ℕ) → 43 * 2 ^ (n - 7) ≤ hue_w n Q
unfolding hue_w
43_le_hue_w n Q = le-root 2 _ (43 * 2 ^ (n - 7)) (omega arith) (rw sq (omega arith))

-- 3.13: T is at least 0.36, rounded down, and G not below T
pub 1_le_3G :
    (n : ℕ) → 20 ≤ n → (a b : ℤ) → 0 < square a + square b →
    let F : ℕ = hue_f n (hue_q n a b) (hue_w n (hue_q n a b)) in
    let T : ℕ = hue_t n (second_form a b) (hue_m (second_form a b) a b) (chroma a b) in
    2 ^ n ≤ 3 * hue_g n (hue_p n F T) F
1_le_3G n from20 a b p =
    let s : Bool = second_form a b in
    let some = chroma-pos a b p in
    let T≤1 = hue_t-le n (hue_m s a b) (chroma a b) some s (hue_m-le s a b) in
    let T-low = le-hue_t n (hue_m s a b) (chroma a b) some s in
    let unit-le : 1048576 ≤ 2 ^ n = pow_mono from20 in
    omega (arith, le_trans T-low (le-hue_g n (hue_f-le n (hue_q n a b)) T≤1))

-- a chroma on a grid K times finer is 0 or at least K
le-chroma-times : (K : ℕ) (a b : ℤ) → 0 < square (K · a) + square (K · b) → K ≤ chroma (K · a) (K · b)
unfolding chroma
le-chroma-times K a b h =
    le-root 2 _ K (omega arith) (rw (sq, squares-times) (at_least (square a + square b) (rw squares-times at h)))
  where
    at_least : (x : ℕ) → 0 < K * K * x → K * K ≤ K * K * x
    at_least x p = either (dec_le 1 x)
      where
        either : Dec (1 ≤ x) → K * K ≤ K * K * x
        either (yes q) = omega (arith, mul-le-mul_left (K * K) q)
        either (no q) = let z : x ≡ 0 = omega arith in absurd (omega (arith, rw z at p))

-- ---- the sheet at n places

module _ (n : ℕ) (from20 : 20 ≤ n) where
  abbrev K : ℕ
  K = 2 ^ (n - 20)

  some : 0 < K
  some = pow_pos (n - 20)

  hue_loose :
      (l c : ℕ) (R T : Lab) → 0 < square R.a + square R.b → K ≤ chroma_of R →
      LooseHue K (2 ^ n) (data_of CMC l c R T) (quantities n CMC l c R T)
  unfolding data_of quantities semi_axes semi_axes_cmc
  hue_loose l c R T p K≤C =
      let a : ℤ = R.a in
      let b : ℤ = R.b in
      let C : ℕ = chroma a b in
      let Q : ℕ = hue_q n a b in
      let W : ℕ = hue_w n Q in
      let F : ℕ = hue_f n Q W in
      let s : Bool = second_form a b in
      let T' : ℕ = hue_t n s (hue_m s a b) C in
      record {
        K≤C = K≤C;
        Q = fraction_weaken some (rw (pow-add-seven n) at (hue_q-fraction n a b));
        W = root_weaken some (rw (pow-is-coarse n from20) at (hue_w-root n Q));
        Q≤W = le-hue_w n Q;
        43≤W = rw (pow-is-coarse n from20) at (43_le_hue_w n Q);
        F = fraction_weaken some (hue_f-fraction n Q W (hue_w-pos n Q));
        F≤1 = hue_f-le n Q;
        T = fraction_weaken some (hue_t-fraction n s (hue_m s a b) C (chroma-pos a b p));
        T≤1 = hue_t-le n (hue_m s a b) C (chroma-pos a b p) s (hue_m-le s a b);
        P = fraction_weaken some (hue_p-fraction n F T');
        G = hue_g-sum n (hue_p n F T') F (hue_f-le n Q);
        1≤3G = 1_le_3G n from20 a b p;
        SH =
            rw (hue_semi_axis-chromatic n a b C (semi_axis_c n C) p)
            (fraction_weaken some (semi_axis_h-fraction n (semi_axis_c n C) _));
      }

  cmc_loose :
      (l c : ℕ) (R T : Lab) → (0 < square R.a + square R.b → K ≤ chroma_of R) →
      LooseCMC K (2 ^ n) (data_of CMC l c R T) (quantities n CMC l c R T)
  unfolding data_of quantities semi_axes semi_axes_cmc
  cmc_loose l c R T K≤C =
      let C : ℕ = chroma_of R in
      record {
        dark = λ h. fraction_weaken some (dark-fraction n R.L h);
        light = λ h. fraction_weaken some (light-fraction n R.L h);
        SC = fraction_weaken some (semi_axis_c-fraction n C);
        neutral = λ z. hue_semi_axis-neutral n R.a R.b C (semi_axis_c n C) z;
        chromatic = λ p. hue_loose l c R T p (K≤C p);
      }

  semi_axes_loose :
      (f : Formula) (l c : ℕ) (R T : Lab) → (0 < square R.a + square R.b → K ≤ chroma_of R) →
      LooseSemiAxes f K (2 ^ n) (data_of f l c R T) (quantities n f l c R T)
  unfolding quantities semi_axes semi_axes_cielab semi_axes_cie94
  semi_axes_loose CIELAB l c R T K≤C = record { SL = refl; SC = refl; SH = refl }
  semi_axes_loose CIE94 l c R T K≤C = record {
    SL = refl;
    SC = fraction_weaken some (semi_axis_c94-fraction n (chroma_of R));
    SH = fraction_weaken some (semi_axis_h94-fraction n (chroma_of R));
  }
  semi_axes_loose CMC l c R T K≤C = cmc_loose l c R T K≤C

  differences_loose :
      (f : Formula) {l c : ℕ} → Factor l → Factor c → (R T : Lab) →
      LooseDifferences K (2 ^ n) (data_of f l c R T) (quantities n f l c R T)
  unfolding data_of quantities
  differences_loose f hl hc R T =
      let low = semi_axes_at_least n from20 f R in
      let div = divisors n from20 f hl hc R in
      record {
        same = λ e. hue_change_same _ _ _ _ e;
        ΔH = λ e. root_weaken some (hue_change-root _ _ _ _ e);
        1≤2SL = low.SL;
        1≤2SC = low.SC;
        1≤7SH = low.SH;
        DL = fraction_weaken some (component-fraction n _ _ _ div.DL);
        DC = fraction_weaken some (component-fraction n _ _ _ div.DC);
        DH = fraction_weaken some (component_h-fraction n _ _ div.DH);
        DE = root_weaken some (total-root _ _ _);
      }

  pub sheet_loose :
      (f : Formula) {l c : ℕ} → Factor l → Factor c → (R T : Lab) →
      let R' : Lab = finer_by (2 ^ (n - 20)) R in
      let T' : Lab = finer_by (2 ^ (n - 20)) T in
      Loose (2 ^ (n - 20)) (2 ^ n) (data_of f l c R' T') (quantities n f l c R' T')
  unfolding data_of quantities
  sheet_loose f {l} {c} hl hc R T =
      let R' : Lab = finer_by K R in
      let T' : Lab = finer_by K T in
      record {
        CR = root_weaken some (chroma-root R'.a R'.b);
        CT = root_weaken some (chroma-root T'.a T'.b);
        ΔC = change_cases (chroma_of R') (chroma_of T');
        semi_axes_lem = semi_axes_loose f l c R' T' (λ p. le-chroma-times K R.a R.b p);
        differences = differences_loose f hl hc R' T';
      }
