-- The laws of the sheet's quantities: what a caller cites, so that no other file opens a definition. Assumes nothing.
use Rattle.std.specs.Prelude.{◌≡◌, refl, Bool, cond, ◌⊎◌, ℕ, ◌+◌, ◌-◌, ◌*◌, ◌/◌, ◌^◌, ◌≤◌, ◌<◌, ℤ, pos}
use Rattle.std.proofs.Common.{sym, ap, ◌∙◌, inl, inr, eq-zero-or-pos, div-mul-le_self, mul-div_cancel, le_refl, le_trans}
use Rattle.std.proofs.Math.Bool.{true, false}
use Rattle.std.proofs.Math.Nat.{mul-pos, mul-le-mul, mul-le-mul_left, mul-le-mul_right, lt_of_mul-lt-mul_right, lt-div-mul-add}
use Rattle.std.proofs.Math.Decide.{dec_lt}
use Rattle.std.proofs.Math.Pow.{pow_pos}
use native.Mathlib.Omega.{arith}
use borrow.Author.Tests.{lt-ltb, le-ltb, le-leb, lt-leb, ne_eqb}
use Rattle.std.proofs.Math.Dec.{eqb}
use Rattle.rounding.specs.Fraction.{le-div, div-le}
use Rattle.rounding.proofs.Theorems.Root.Laws.{le-root, root-lt, root_at, sq, sqrt_low}
use Rattle.rounding.proofs.Theorems.Signed.Difference.{diff_abs, diff_sub, diff_parts}
use Rattle.rounding.proofs.Theorems.Signed.Laws.{abs-add-le, abs-sub-le, abs-mul, abs-quotient}
use Rattle.rounding.specs.Signed.{∣◌∣, square, minus, signed, ◌·◌}
use Rattle.colour.specs.Conversion.{Lab}
use Rattle.sheet.specs.Ranges.{Both}
use Rattle.sheet.specs.Sheet.{chroma, chroma_of, same_hue, hue_change, semi_axis_l, semi_axis_c, hue_q, hue_w, hue_f}
use Rattle.sheet.specs.Sheet.{second_form, hue_m, hue_t, hue_p, hue_g, semi_axis_h, hue_semi_axis}
use Rattle.sheet.specs.Sheet.{semi_axes_cielab, semi_axes_cie94, semi_axes_cmc, semi_axes, change, component, component_h}
use Rattle.sheet.specs.Sheet.{compared, verdict, difference_on, tolerance_on, verdict_on}
use Rattle.sheet.specs.declared.formula.Formula.{Formula}
use Rattle.sheet.specs.declared.formula.Formula.TheVariants.{CIELAB, CIE94, CMC}
use Rattle.sheet.specs.declared.verdict.Verdict.TheVariants.{Near, Pass, Fail}

-- ---- line 1

module _ (a b : ℤ) where
  pub chroma-lt : Both (2 ^ 28) a b → chroma a b < 2 ^ 29
  unfolding chroma
  chroma-lt h =
      root-lt 2 _ (2 ^ 29) (omega arith)
      (omega (arith, mul-le-mul h.first h.first, mul-le-mul h.second h.second))

  pub abs_a_le_chroma : ∣ a ∣ ≤ chroma a b
  unfolding chroma
  abs_a_le_chroma = le-root 2 _ ∣ a ∣ (omega arith) (rw sq (omega arith))

  pub abs_b_le_chroma : ∣ b ∣ ≤ chroma a b
  unfolding chroma
  abs_b_le_chroma = le-root 2 _ ∣ b ∣ (omega arith) (rw sq (omega arith))

  pub chroma-pos : 0 < square a + square b → 0 < chroma a b
  unfolding chroma
  chroma-pos h = le-root 2 _ 1 (omega arith) (rw sq h)

  -- C is 0 for a neutral colour alone
  pub neutral_of_chroma : chroma a b ≡ 0 → square a + square b ≡ 0
  neutral_of_chroma e = either (eq-zero-or-pos (square a + square b))
    where
      either : (square a + square b ≡ 0) ⊎ (0 < square a + square b) → square a + square b ≡ 0
      either (inl z) = z
      either (inr p) = absurd (omega (arith, chroma-pos p))

  pub chromatic_of_chroma : 0 < chroma a b → 0 < square a + square b
  unfolding chroma
  chromatic_of_chroma h = omega (arith, sqrt_low (square a + square b), mul-le-mul h h)

-- ---- line 3: its two branches

module _ (n : ℕ) {L : ℕ} where
  pub semi_axis_l-dark : L < 16 * 2 ^ n → semi_axis_l n L ≡ 511 * 2 ^ n / 1000
  unfolding semi_axis_l
  semi_axis_l-dark dark = rw (lt-ltb _ _ dark)

  pub semi_axis_l-light : 16 * 2 ^ n ≤ L → semi_axis_l n L ≡ 40975 * L * 2 ^ n / (1000000 * 2 ^ n + 17650 * L)
  unfolding semi_axis_l
  semi_axis_l-light light = rw (le-ltb _ _ light)

-- SL is at least 0.511, rounded down, and at most 3: over u units to 1
le-light : (u L : ℕ) → 0 < u → 16 * u ≤ L → 511 * u / 1000 ≤ 40975 * L * u / (1000000 * u + 17650 * L)
le-light u L hu h =
    let q = div-mul-le_self (511 * u) 1000 in
    le-div _ _ _ (omega arith)
    (omega (arith, mul-le-mul_right (1000 * u) q, mul-le-mul_right (18 * L) q, mul-le-mul_right u h))

light-le : (u L : ℕ) → 0 < u → 40975 * L * u / (1000000 * u + 17650 * L) ≤ 3 * u
light-le u L hu = div-le _ _ _ (omega arith) (omega arith)

module _ (n L : ℕ) where
  pub le-semi_axis_l : 511 * 2 ^ n / 1000 ≤ semi_axis_l n L
  le-semi_axis_l = either (dec_lt L (16 * 2 ^ n))
    where
      either : Dec (L < 16 * 2 ^ n) → 511 * 2 ^ n / 1000 ≤ semi_axis_l n L
      either (yes h) = rw (semi_axis_l-dark n h) (le_refl _)
      either (no h) =
          let g : 16 * 2 ^ n ≤ L = omega arith in rw (semi_axis_l-light n g) (le-light (2 ^ n) L (pow_pos n) g)

  pub semi_axis_l-le : semi_axis_l n L ≤ 3 * 2 ^ n
  semi_axis_l-le = either (dec_lt L (16 * 2 ^ n))
    where
      either : Dec (L < 16 * 2 ^ n) → semi_axis_l n L ≤ 3 * 2 ^ n
      either (yes h) = rw (semi_axis_l-dark n h) (omega arith)
      either (no h) = let g : 16 * 2 ^ n ≤ L = omega arith in rw (semi_axis_l-light n g) (light-le (2 ^ n) L (pow_pos n))

-- ---- line 4: SC is at least 0.638, rounded down, and at most 6

module _ (n C : ℕ) where
  pub le-semi_axis_c : 638 * 2 ^ n / 1000 ≤ semi_axis_c n C
  unfolding semi_axis_c
  le-semi_axis_c =
      le-div _ _ _ (omega (arith, pow_pos n))
      (omega (arith, mul-le-mul_right (10000 * 2 ^ n + 131 * C) (div-mul-le_self (638 * 2 ^ n) 1000)))

  pub semi_axis_c-le : semi_axis_c n C ≤ 6 * 2 ^ n
  unfolding semi_axis_c
  semi_axis_c-le = div-le _ _ _ (omega (arith, pow_pos n)) (omega (arith, pow_pos n))

-- ---- line 5: F is at most 1

module _ (n Q : ℕ) where
  pub le-hue_w : Q ≤ hue_w n Q
  unfolding hue_w
  le-hue_w = le-root 2 _ Q (omega arith) (rw sq (omega arith))

  pub hue_w-pos : 0 < hue_w n Q
  unfolding hue_w
  hue_w-pos = le-root 2 _ 1 (omega arith) (omega (arith, mul-pos (pow_pos (n - 7)) (pow_pos (n - 7))))

  pub hue_f-le : hue_f n Q (hue_w n Q) ≤ 2 ^ n
  unfolding hue_f
  hue_f-le = div-le _ _ _ hue_w-pos (omega (arith, hue_w-pos, mul-le-mul_right (2 ^ n) le-hue_w))

pub hue_q-le : {a b : ℤ} → Both (2 ^ 28) a b → hue_q 20 a b ≤ 2 ^ 30
unfolding hue_q
hue_q-le h = omega (arith, mul-le-mul h.first h.first, mul-le-mul h.second h.second)

-- ---- line 6: |a| and |b| are at most C, so T is at most 1; it is at least 0.36, rounded down

abs-times : (k : ℕ) (z : ℤ) → ∣ k · z ∣ ≡ k * ∣ z ∣
abs-times k z = abs-mul (pos k) z

pub hue_m-le : (second : Bool) (a b : ℤ) → hue_m second a b ≤ 139272848 * chroma a b
unfolding hue_m
hue_m-le false a b =
    omega (
      arith,
      abs-sub-le (81915204 · a) (57357644 · b),
      abs-times 81915204 a,
      abs-times 57357644 b,
      abs_a_le_chroma a b,
      abs_b_le_chroma a b,
    )
hue_m-le true a b =
    omega (
      arith,
      abs-add-le (97814760 · a) (20791169 · b),
      abs-times 97814760 a,
      abs-times 20791169 b,
      abs_a_le_chroma a b,
      abs_b_le_chroma a b,
    )

module _ (n M C : ℕ) (some : 0 < C) where
  pub hue_t-le : (second : Bool) → M ≤ 139272848 * C → hue_t n second M C ≤ 2 ^ n
  unfolding hue_t
  hue_t-le false h = div-le _ _ _ (omega arith) (omega (arith, mul-le-mul_right (2 ^ n) h))
  hue_t-le true h = div-le _ _ _ (omega arith) (omega (arith, mul-le-mul_right (2 ^ n) h))

  pub le-hue_t : (second : Bool) → 36 * 2 ^ n / 100 ≤ hue_t n second M C
  unfolding hue_t
  le-hue_t false =
      le-div _ _ _ (omega arith) (omega (arith, mul-le-mul_right (10000000 * C) (div-mul-le_self (36 * 2 ^ n) 100)))
  le-hue_t true =
      le-div _ _ _ (omega arith) (omega (arith, mul-le-mul_right (10000000 * C) (div-mul-le_self (36 * 2 ^ n) 100)))

pub hue_t_of_le :
    (n : ℕ) (a b : ℤ) {C : ℕ} → C ≡ chroma a b → 0 < C → (second : Bool) → hue_t n second (hue_m second a b) C ≤ 2 ^ n
hue_t_of_le n a b {C} is some second = hue_t-le n (hue_m second a b) C some second (rw is (hue_m-le second a b))

-- ---- line 7: T is at most G, and G at most 1

module _ (n : ℕ) {F T : ℕ} (h_f : F ≤ 2 ^ n) (h_t : T ≤ 2 ^ n) where
  pub hue_p-le : hue_p n F T ≤ F
  unfolding hue_p
  hue_p-le = div-le _ _ _ (pow_pos n) (omega (arith, mul-le-mul_left F h_t, pow_pos n))

  pub hue_g-le : hue_g n (hue_p n F T) F ≤ 2 ^ n
  unfolding hue_g
  hue_g-le = omega (arith, hue_p-le)

  -- (1 - F)(1 - T) is not negative
  product : F * 2 ^ n + 2 ^ n * T ≤ 2 ^ n * 2 ^ n + F * T
  product = both (2 ^ n - F) (2 ^ n - T) (2 ^ n) (omega arith) (omega arith)
    where
      both : (x y u : ℕ) → u ≡ F + x → u ≡ T + y → F * u + u * T ≤ u * u + F * T
      both x y u e g =
          omega (
            arith,
            ap (λ (z : ℕ). z * x) g,
            ap (λ (z : ℕ). z * T) e,
            ap (λ (z : ℕ). z * F) e,
            ap (λ (z : ℕ). z * u) e,
          )

  pub le-hue_g : T ≤ hue_g n (hue_p n F T) F
  unfolding hue_g hue_p
  le-hue_g =
      let sum : T + F < F * T / 2 ^ n + 2 ^ n + 1 =
      lt_of_mul-lt-mul_right (2 ^ n) (omega (arith, product, lt-div-mul-add {a = F * T} (pow_pos n))) in
      omega arith

-- SH is at most SC
module _ (n : ℕ) {SC G : ℕ} where
  pub semi_axis_h-le : G ≤ 2 ^ n → semi_axis_h n SC G ≤ SC
  unfolding semi_axis_h
  semi_axis_h-le h = div-le _ _ _ (pow_pos n) (omega (arith, mul-le-mul_left SC h, pow_pos n))

semi_axis_h_one : (n SC : ℕ) → SC ≡ semi_axis_h n SC (2 ^ n)
unfolding semi_axis_h
semi_axis_h_one n SC = sym (mul-div_cancel SC (pow_pos n))

-- ---- lines 5 to 7 together

module _ (n : ℕ) (a b : ℤ) (C SC : ℕ) where
  pub hue_semi_axis-neutral : square a + square b ≡ 0 → hue_semi_axis n a b C SC ≡ SC
  unfolding hue_semi_axis
  hue_semi_axis-neutral h = rw h

  pub hue_semi_axis-chromatic :
      0 < square a + square b →
      let F : ℕ = hue_f n (hue_q n a b) (hue_w n (hue_q n a b)) in
      let T : ℕ = hue_t n (second_form a b) (hue_m (second_form a b) a b) C in
      hue_semi_axis n a b C SC ≡ semi_axis_h n SC (hue_g n (hue_p n F T) F)
  unfolding hue_semi_axis
  hue_semi_axis-chromatic h = rw (pos-eqb _ h)
    where
      pos-eqb : (x : ℕ) → 0 < x → eqb x 0 ≡ false
      pos-eqb x h = ne_eqb x 0 (λ e. omega arith)

-- SH is SC·G with G from 0.36, rounded down, to 1: for a neutral colour G is 1
pub record ByG (n : ℕ) (a b : ℤ) (SC : ℕ) : Type 0 where
  pub G : ℕ
  pub low : 36 * 2 ^ n / 100 ≤ G
  pub high : G ≤ 2 ^ n
  pub is : hue_semi_axis n a b (chroma a b) SC ≡ semi_axis_h n SC G

pub hue_semi_axis_by_G : (n : ℕ) (a b : ℤ) (SC : ℕ) → ByG n a b SC
hue_semi_axis_by_G n a b SC = either (eq-zero-or-pos (square a + square b))
  where
    either : (square a + square b ≡ 0) ⊎ (0 < square a + square b) → ByG n a b SC
    either (inl z) =
        record {
          G = 2 ^ n;
          low = omega arith;
          high = le_refl (2 ^ n);
          is = hue_semi_axis-neutral n a b (chroma a b) SC z
              ∙ semi_axis_h_one n SC;
        }
    either (inr p) =
        let s : Bool = second_form a b in
        let F≤1 = hue_f-le n (hue_q n a b) in
        let C>0 = chroma-pos a b p in
        let T≤1 = hue_t-le n (hue_m s a b) (chroma a b) C>0 s (hue_m-le s a b) in
        record {
          G = _;
          low = le_trans (le-hue_t n (hue_m s a b) (chroma a b) C>0 s) (le-hue_g n F≤1 T≤1);
          high = hue_g-le n F≤1 T≤1;
          is = hue_semi_axis-chromatic n a b (chroma a b) SC p;
        }

-- ---- the semi-axes hold the reference's C, whatever the formula

pub semi_axes_C : (n : ℕ) (f : Formula) (R : Lab) → (semi_axes n f R).C ≡ chroma_of R
unfolding semi_axes semi_axes_cielab semi_axes_cie94 semi_axes_cmc
semi_axes_C n CIELAB R = refl
semi_axes_C n CIE94 R = refl
semi_axes_C n CMC R = refl

-- ---- lines 1 and 2: the shift between two colours

pub abs-change : (R T : ℕ) → ∣ change R T ∣ ≡ (T - R) + (R - T)
abs-change R T = omega (arith, diff_abs (diff_sub (diff_parts (pos T)) (diff_parts (pos R))))

pub change-le : (m : ℕ) {R T : ℕ} → R ≤ m → T ≤ m → ∣ change R T ∣ ≤ m
change-le m {R} {T} h g = omega (arith, abs-change R T)

-- no change where ΔC² is not below D²
pub hue_change-zero : (D² : ℕ) (ΔC x y : ℤ) → D² ≤ square ΔC → hue_change D² ΔC x y ≡ pos 0
unfolding hue_change
hue_change-zero D² ΔC x y h =
    let none : D² - square ΔC ≡ 0 = omega arith in rw (none, root_at 2 0 0 tt tt tt) (either (same_hue x y) (minus x))
  where
    either : (same below : Bool) → cond same (pos 0) (signed below 0) ≡ pos 0
    either true below = refl
    either false true = refl
    either false false = refl

-- ---- line 8: magnitudes

pub abs-component : (n l S : ℕ) (Δ : ℤ) → ∣ component n l S Δ ∣ ≡ 1000 * 2 ^ n * ∣ Δ ∣ / (l * S)
unfolding component
abs-component n l S Δ = abs-quotient (1000 * 2 ^ n) (l * S) Δ (omega (arith, pow_pos n))

pub abs-component_h : (n S : ℕ) (Δ : ℤ) → ∣ component_h n S Δ ∣ ≡ 2 ^ n * ∣ Δ ∣ / S
unfolding component_h
abs-component_h n S Δ = abs-quotient (2 ^ n) S Δ (pow_pos n)

-- ---- the verdict: which of the three it is, by the places of DE and the tolerance

module _ (n tolerance DE : ℕ) where
  pub compared-near : ∣ change tolerance DE ∣ ≤ 2 * 2 ^ n → compared n tolerance DE ≡ Near
  unfolding compared
  compared-near h = rw (le-leb _ _ h)

  pub compared-pass : 2 * 2 ^ n < ∣ change tolerance DE ∣ → DE < tolerance → compared n tolerance DE ≡ Pass
  unfolding compared
  compared-pass h g = rw (lt-leb _ _ h, lt-ltb _ _ g)

  pub compared-fail : 2 * 2 ^ n < ∣ change tolerance DE ∣ → tolerance ≤ DE → compared n tolerance DE ≡ Fail
  unfolding compared
  compared-fail h g = rw (lt-leb _ _ h, le-ltb _ _ g)

-- a tolerance and a DE of one formula are compared, whichever it is
pub one_scale :
    (n : ℕ) (f : Formula) (tolerance DE : ℕ) → verdict_on n (tolerance_on n f tolerance) (difference_on f DE)
    ≡ verdict n tolerance DE
unfolding verdict_on verdict
one_scale n CIELAB tolerance DE = refl
one_scale n CIE94 tolerance DE = refl
one_scale n CMC tolerance DE = refl
