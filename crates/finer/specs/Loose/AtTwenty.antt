-- Section 2.3: K times the sheet at 20 places is a loose sheet of the same colours on the finer grid, for any K above
-- 0: a line and what it is rounded from grow alike, and so do the sizes. Then both sheets, in one unit.
-- Assumes nothing.
use Rattle.std.specs.Prelude.{◌≡◌, ◌⊎◌}
use Rattle.std.proofs.Math.Path.{sym, ap}
use Rattle.std.proofs.Common.{◌∙◌, inl, inr, mul-pos, eq-zero-or-pos, pow_pos}
use Rattle.std.proofs.Math.Bool.{Bool}
use Prim.Native.Nat.{ℕ, ◌+◌, ◌-◌, ◌*◌, ◌^◌, ◌≤◌, ◌<◌}
use Rattle.std.proofs.Math.Nat.{mul-le-mul_left, le_of_mul-le-mul_left, lt_of_mul-lt-mul_left}
use native.Mathlib.Omega.{arith}
use Rattle.std.proofs.Math.IntN.{ℤ}
use Rattle.rounding.specs.Signed.{square, ◌·◌}
use Rattle.colour.specs.declared.conversion.GridColour.{GridColour}
use Rattle.colour.specs.Conversion.{Lab, at_places}
use Rattle.colour.proofs.Theorems.Conversion.Places.{units, at_places_20}
use Rattle.sheet.specs.Settings.{Factor}
use Rattle.sheet.specs.Sheet.{chroma, chroma_of, semi_axis_c, hue_q, hue_w, hue_f, second_form, hue_m, hue_t, hue_p}
use Rattle.sheet.specs.Sheet.{semi_axes_cielab, semi_axes_cie94, semi_axes_cmc, semi_axes}
use Rattle.sheet.proofs.Theorems.Sheet.Laws.{chroma-pos, le-hue_w, hue_w-pos, hue_f-le, hue_m-le, hue_t-le, hue_semi_axis-neutral}
use Rattle.sheet.proofs.Theorems.Sheet.Laws.{hue_semi_axis-chromatic}
use Rattle.sheet.proofs.Theorems.Sheet.Facts.{semi_axes_at_least, divisors}
use Rattle.sheet.specs.declared.formula.Formula.{Formula}
use Rattle.sheet.specs.declared.formula.Formula.TheVariants.{CIELAB, CIE94, CMC}
use Rattle.finer.specs.Products.{root-scaled}
use Rattle.finer.specs.Loose.{unit, Data, Quantities, Loose, LooseHue, LooseCMC, LooseSemiAxes, LooseDifferences}
use Rattle.finer.specs.Loose.Sheets.{data_of, quantities, times}
use Rattle.finer.specs.Loose.Lines.{chroma-times, hue_change-root, dark-times, light-times, semi_axis_c-times}
use Rattle.finer.specs.Loose.Lines.{hue_q-times, hue_w-times, hue_f-times, hue_t-times, hue_p-times, hue_g-times}
use Rattle.finer.specs.Loose.Lines.{semi_axis_h-times, semi_axis_c94-times, semi_axis_h94-times, component-times}
use Rattle.finer.specs.Loose.Lines.{component_h-times, total-root, pow-is-unit}
use Rattle.finer.specs.Loose.Times.{finer_by, at_places-finer_by, squares-times, change-times, excess_times}
use Rattle.finer.specs.Loose.Times.{hue_m-times, second_form-times, same_hue-times}
use Rattle.finer.specs.Loose.AtPlaces.{change_cases, hue_change_same, 43_le_hue_w, 1_le_3G, sheet_loose}

module _ (K : ℕ) (some : 0 < K) where
  -- a reference is neutral on the finer grid where it is on the grid
  chromatic_of_times : (a b : ℤ) → 0 < square (K · a) + square (K · b) → 0 < square a + square b
  chromatic_of_times a b h = either (eq-zero-or-pos (square a + square b))
    where
      either : (square a + square b ≡ 0) ⊎ (0 < square a + square b) → 0 < square a + square b
      either (inl z) = absurd (omega (arith, squares-times K a b, ap (λ (w : ℕ). K * K * w) z))
      either (inr p) = p

  neutral_of_times : (a b : ℤ) → square (K · a) + square (K · b) ≡ 0 → square a + square b ≡ 0
  neutral_of_times a b h = either (eq-zero-or-pos (square a + square b))
    where
      either : (square a + square b ≡ 0) ⊎ (0 < square a + square b) → square a + square b ≡ 0
      either (inl z) = z
      either (inr p) = absurd (omega (arith, squares-times K a b, mul-pos (mul-pos some some) p))

  hue-times :
      (l c : ℕ) (R T : Lab) → 0 < square R.a + square R.b →
      LooseHue K (unit K) (data_of CMC l c (finer_by K R) (finer_by K T)) (times K (quantities 20 CMC l c R T))
  unfolding data_of quantities times semi_axes semi_axes_cmc
  hue-times l c R T p =
      let a : ℤ = R.a in
      let b : ℤ = R.b in
      let C : ℕ = chroma a b in
      let Q : ℕ = hue_q 20 a b in
      let W : ℕ = hue_w 20 Q in
      let F : ℕ = hue_f 20 Q W in
      let s : Bool = second_form a b in
      let T' : ℕ = hue_t 20 s (hue_m s a b) C in
      let some-C = chroma-pos a b p in
      record {
        K≤C = omega (arith, mul-le-mul_left K some-C);
        Q = hue_q-times K some a b;
        W = hue_w-times K some Q;
        Q≤W = mul-le-mul_left K (le-hue_w 20 Q);
        43≤W = omega (arith, mul-le-mul_left K (43_le_hue_w 20 Q));
        F = hue_f-times K some Q W (hue_w-pos 20 Q);
        F≤1 = omega (arith, mul-le-mul_left K (hue_f-le 20 Q));
        T = rw (second_form-times K a b some, hue_m-times) (hue_t-times K some s (hue_m s a b) C some-C);
        T≤1 = omega (arith, mul-le-mul_left K (hue_t-le 20 (hue_m s a b) C some-C s (hue_m-le s a b)));
        P = hue_p-times K some F T';
        G = hue_g-times K some (hue_p 20 F T') F (hue_f-le 20 Q);
        1≤3G = omega (arith, mul-le-mul_left K (1_le_3G 20 (omega arith) a b p));
        SH = rw (hue_semi_axis-chromatic 20 a b C (semi_axis_c 20 C) p) (semi_axis_h-times K some (semi_axis_c 20 C) _);
      }

  cmc-times :
      (l c : ℕ) (R T : Lab) →
      LooseCMC K (unit K) (data_of CMC l c (finer_by K R) (finer_by K T)) (times K (quantities 20 CMC l c R T))
  unfolding data_of quantities times semi_axes semi_axes_cmc
  cmc-times l c R T =
      let C : ℕ = chroma_of R in
      record {
        dark = λ h. dark-times K some R.L (lt_of_mul-lt-mul_left K (omega arith));
        light = λ h. light-times K some R.L (le_of_mul-le-mul_left {k = K} (omega arith) some);
        SC = semi_axis_c-times K some C;
        neutral =
            λ z. let none = neutral_of_times R.a R.b z in
            ap (λ (x : ℕ). K * x) (hue_semi_axis-neutral 20 R.a R.b C (semi_axis_c 20 C) none);
        chromatic = λ p. hue-times l c R T (chromatic_of_times R.a R.b p);
      }

  semi_axes_times :
      (f : Formula) (l c : ℕ) (R T : Lab) →
      LooseSemiAxes f K (unit K) (data_of f l c (finer_by K R) (finer_by K T)) (times K (quantities 20 f l c R T))
  unfolding quantities times semi_axes semi_axes_cielab semi_axes_cie94
  semi_axes_times CIELAB l c R T = record { SL = omega arith; SC = omega arith; SH = omega arith }
  semi_axes_times CIE94 l c R T =
      let C : ℕ = chroma_of R in
      record { SL = omega arith; SC = semi_axis_c94-times K some C; SH = semi_axis_h94-times K some C }
  semi_axes_times CMC l c R T = cmc-times l c R T

  differences-times :
      (f : Formula) {l c : ℕ} → Factor l → Factor c → (R T : Lab) →
      LooseDifferences K (unit K) (data_of f l c (finer_by K R) (finer_by K T)) (times K (quantities 20 f l c R T))
  unfolding data_of quantities times
  differences-times f hl hc R T =
      let low = semi_axes_at_least 20 (omega arith) f R in
      let div = divisors 20 (omega arith) f hl hc R in
      let same-hue = sym (same_hue-times K some R.a R.b T.a T.b) in
      record {
        same = λ e. rw (hue_change_same _ _ _ _ (same-hue ∙ e)) (omega arith);
        ΔH =
            λ e. root-scaled K some (excess_times K R.a R.b T.a T.b _)
            (hue_change-root _ _ _ _ (same-hue ∙ e));
        1≤2SL = omega (arith, mul-le-mul_left K low.SL);
        1≤2SC = omega (arith, mul-le-mul_left K low.SC);
        1≤7SH = omega (arith, mul-le-mul_left K low.SH);
        DL = rw change-times (component-times K some _ _ _ div.DL);
        DC = component-times K some _ _ _ div.DC;
        DH = component_h-times K some _ _ div.DH;
        DE = root-scaled K some (omega arith) (total-root _ _ _);
      }

  cases_times : (d x y : ℕ) → (d + x ≡ y) ⊎ (d + y ≡ x) → (K * d + K * x ≡ K * y) ⊎ (K * d + K * y ≡ K * x)
  cases_times d x y (inl e) = inl (omega (arith, ap (λ (z : ℕ). K * z) e))
  cases_times d x y (inr e) = inr (omega (arith, ap (λ (z : ℕ). K * z) e))

  pub times_loose :
      (f : Formula) {l c : ℕ} → Factor l → Factor c → (R T : Lab) →
      Loose K (unit K) (data_of f l c (finer_by K R) (finer_by K T)) (times K (quantities 20 f l c R T))
  unfolding data_of quantities times
  times_loose f {l} {c} hl hc R T = record {
    CR = chroma-times K some R.a R.b;
    CT = chroma-times K some T.a T.b;
    ΔC = cases_times _ _ _ (change_cases (chroma_of R) (chroma_of T));
    semi_axes_lem = semi_axes_times f l c R T;
    differences = differences-times f hl hc R T;
  }

-- ---- both, in one unit

pub record BothLoose (K : ℕ) (d : Data) (fine coarse : Quantities) : Type 0 where
  pub at_n : Loose K (unit K) d fine
  pub at_20 : Loose K (unit K) d (times K coarse)

pub both_loose :
    (n : ℕ) → 20 ≤ n → (f : Formula) {l c : ℕ} → Factor l → Factor c → (R T : GridColour) →
    BothLoose (2 ^ (n - 20)) (data_of f l c (at_places n R) (at_places n T))
    (quantities n f l c (at_places n R) (at_places n T))
    (quantities 20 f l c (at_places 20 R) (at_places 20 T))
both_loose n from20 f hl hc R T =
    rw (at_places_20 R, at_places_20 T, at_places-finer_by n R, at_places-finer_by n T)
    (record {
      at_n = rw (pow-is-unit n from20) at (sheet_loose n from20 f hl hc (units R) (units T));
      at_20 = times_loose (2 ^ (n - 20)) (pow_pos (n - 20)) f hl hc (units R) (units T);
    })
