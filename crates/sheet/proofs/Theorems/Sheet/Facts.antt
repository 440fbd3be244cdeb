-- What a reader may ask of the sheet: equal colours differ by 0, DE is 0 only where its three parts are, how small a
-- semi-axis can be, that no divisor is 0, and what each verdict says of DE. At every n, from 20 up where a semi-axis is
-- compared. Assumes nothing.
use Rattle.std.specs.Prelude.{◌≡◌, refl, Bool, true, false, cond, ◌⊎◌, ℕ, ◌+◌, ◌*◌, ◌/◌, ◌^◌, ◌≤◌, ◌<◌, leb, ltb, ℤ, pos, ◌-ℤ◌}
use Rattle.std.proofs.Common.{ap₂, ◌∙◌, inl, inr, zero-le, eq-zero-or-pos, mul-pos, mul-zero, mul-le-mul, mul-le-mul_right, leb-true, leb-false, ltb-true, ltb-false, pow_pos, pow_mono}
use Rattle.std.proofs.Math.Nat.{zero-div}
use native.Mathlib.Omega.{arith}
use Rattle.rounding.specs.Fraction.{le-div}
use Rattle.rounding.proofs.Theorems.Root.Laws.{sqrt_high, root_at}
use Rattle.rounding.specs.Signed.{∣◌∣, square}
use Rattle.rounding.proofs.Theorems.Signed.Difference.{diff_abs, diff_sub, diff_parts}
use Rattle.rounding.proofs.Theorems.Signed.Laws.{zero_of_abs}
use Rattle.colour.specs.declared.conversion.GridColour.{GridColour}
use Rattle.colour.specs.Conversion.{Lab}
use Rattle.sheet.specs.Settings.{Factor}
use Rattle.sheet.specs.Sheet.{chroma, chroma_of, distance², change, semi_axis_h, hue_q, hue_w, hue_semi_axis, semi_axis_c}
use Rattle.sheet.specs.Sheet.{semi_axis_c94, semi_axes_cmc, semi_axes, shift, factor_under, differences}
use Rattle.sheet.specs.Sheet.{semi_axis_h94, component, component_h, total, semi_axes_cielab, semi_axes_cie94}
use Rattle.sheet.specs.Sheet.{sheet, compared, verdict}
use Rattle.sheet.proofs.Theorems.Sheet.Laws.{chroma-pos, le-semi_axis_l, le-semi_axis_c, hue_w-pos, hue_semi_axis_by_G, abs-change}
use Rattle.sheet.proofs.Theorems.Sheet.Laws.{hue_change-zero, abs-component, abs-component_h}
use Rattle.sheet.specs.declared.semi_axes.SemiAxes.{SemiAxes}
use Rattle.sheet.specs.declared.differences.Differences.{Differences}
use Rattle.sheet.specs.declared.formula.Formula.{Formula}
use Rattle.sheet.specs.declared.formula.Formula.TheVariants.{CIELAB, CIE94, CMC}
use Rattle.sheet.specs.declared.verdict.Verdict.{Verdict}
use Rattle.sheet.specs.declared.verdict.Verdict.TheVariants.{Near, Pass, Fail}

-- ---- DE is 0 exactly where DL, DC and DH all are

pub record AllZero (DL DC DH : ℤ) : Type 0 where
  pub DL-zero : DL ≡ pos 0
  pub DC-zero : DC ≡ pos 0
  pub DH-zero : DH ≡ pos 0

zero_of_square : (x : ℕ) → x * x ≡ 0 → x ≡ 0
zero_of_square x h = either (eq-zero-or-pos x)
  where
    either : (x ≡ 0) ⊎ (0 < x) → x ≡ 0
    either (inl z) = z
    either (inr p) = absurd (omega (arith, mul-pos p p))

module _ (DL DC DH : ℤ) where
  pub all_zero_of_total : total DL DC DH ≡ 0 → AllZero DL DC DH
  unfolding total
  all_zero_of_total e = record {
    DL-zero = zero_of_abs DL (zero_of_square ∣ DL ∣ (omega (arith, none)));
    DC-zero = zero_of_abs DC (zero_of_square ∣ DC ∣ (omega (arith, none)));
    DH-zero = zero_of_abs DH (zero_of_square ∣ DH ∣ (omega (arith, none)));
  }
    where
      none : square DL + square DC + square DH < 1
      none = rw e at (sqrt_high (square DL + square DC + square DH))

  pub total_of_all_zero : AllZero DL DC DH → total DL DC DH ≡ 0
  unfolding total
  total_of_all_zero h = rw (h.DL-zero, h.DC-zero, h.DH-zero) (root_at 2 0 0 tt tt tt)

total-zero : total (pos 0) (pos 0) (pos 0) ≡ 0
total-zero = total_of_all_zero (pos 0) (pos 0) (pos 0) (record { DL-zero = refl; DC-zero = refl; DH-zero = refl })

-- of the sheet
pub DE_zero_iff :
    (n : ℕ) (f : Formula) (l c : ℕ) (R T : GridColour) →
    let d : Differences = sheet n f l c R T in
    (d.DE ≡ 0 → AllZero d.DL d.DC d.DH) × (AllZero d.DL d.DC d.DH → d.DE ≡ 0)
unfolding sheet differences
DE_zero_iff n f l c R T = (all_zero_of_total _ _ _, total_of_all_zero _ _ _)

-- ---- equal colours differ by 0

sub_self : (z : ℤ) → ∣ z -ℤ z ∣ ≡ 0
sub_self z = omega (arith, diff_abs (diff_sub (diff_parts z) (diff_parts z)))

change_self : (x : ℕ) → change x x ≡ pos 0
change_self x = zero_of_abs (change x x) (omega (arith, abs-change x x))

distance²_self : (a b : ℤ) → distance² a b a b ≡ 0
unfolding distance²
distance²_self a b = ap₂ (λ (x y : ℕ). x * x + y * y) (sub_self a) (sub_self b)

module _ (n l S : ℕ) where
  component-zero : component n l S (pos 0) ≡ pos 0
  component-zero = zero_of_abs (component n l S (pos 0)) (abs-component n l S (pos 0) ∙ rw mul-zero (zero-div (l * S)))

  component_h-zero : component_h n S (pos 0) ≡ pos 0
  component_h-zero = zero_of_abs (component_h n S (pos 0)) (abs-component_h n S (pos 0) ∙ rw mul-zero (zero-div S))

shift_self : (R : Lab) → shift R R ≡ record { L = pos 0; C = pos 0; H = pos 0 }
unfolding shift
shift_self R =
    rw (
      change_self R.L,
      change_self (chroma_of R),
      distance²_self R.a R.b,
      hue_change-zero 0 (pos 0) _ _ zero-le,
    )

pub sheet_self :
    (n : ℕ) (f : Formula) (l c : ℕ) (R : GridColour) →
    sheet n f l c R R ≡ record { DL = pos 0; DC = pos 0; DH = pos 0; DE = 0 }
unfolding sheet differences
sheet_self n f l c R = simp (shift_self, component-zero, component_h-zero, total-zero)

-- ---- SL and SC are at least 1/2 and SH is at least 1/7, whatever the formula and the colour

pub record AtLeast (n : ℕ) (S : SemiAxes) : Type 0 where
  pub SL : 2 ^ n ≤ 2 * S.SL
  pub SC : 2 ^ n ≤ 2 * S.SC
  pub SH : 2 ^ n ≤ 7 * S.SH

-- over u units to 1: 0.6 times 0.35 is more than 1/7
le_seven_products : (u SC G : ℕ) → 1048576 ≤ u → 3 * u ≤ 5 * SC → 7 * u ≤ 20 * G → u ≤ 7 * (SC * G / u)
le_seven_products u SC G some h g = omega (arith, le-div (SC * G) u (u / 7 + 1) (omega arith) below)
  where
    step : 100 * (u / 7 + 1) ≤ 21 * u
    step = omega arith

    below : (u / 7 + 1) * u ≤ SC * G
    below = omega (arith, mul-le-mul h g, mul-le-mul_right u step)

module _ (n : ℕ) (from20 : 20 ≤ n) where
  unit-le : 1048576 ≤ 2 ^ n
  unit-le = pow_mono from20

  le_seven_hue_semi_axis : (a b : ℤ) (SC : ℕ) → 3 * 2 ^ n ≤ 5 * SC → 2 ^ n ≤ 7 * hue_semi_axis n a b (chroma a b) SC
  unfolding semi_axis_h
  le_seven_hue_semi_axis a b SC h =
      let by = hue_semi_axis_by_G n a b SC in
      rw by.is (le_seven_products (2 ^ n) SC by.G unit-le h (omega (arith, unit-le, by.low)))

  pub semi_axes_at_least : (f : Formula) (R : Lab) → AtLeast n (semi_axes n f R)
  unfolding semi_axes semi_axes_cielab semi_axes_cie94 semi_axes_cmc semi_axis_c94 semi_axis_h94
  semi_axes_at_least CIELAB R = record { SL = omega arith; SC = omega arith; SH = omega arith }
  semi_axes_at_least CIE94 R = record { SL = omega arith; SC = omega (arith, unit-le); SH = omega (arith, unit-le) }
  semi_axes_at_least CMC R =
      let sc = le-semi_axis_c n (chroma_of R) in
      record {
        SL = omega (arith, unit-le, le-semi_axis_l n R.L);
        SC = omega (arith, unit-le, sc);
        SH = le_seven_hue_semi_axis R.a R.b (semi_axis_c n (chroma_of R)) (omega (arith, unit-le, sc));
      }

-- ---- no divisor of the sheet is 0: each `/`, `÷` of `Sheet.antt` that is not by a number written there

pub record Divisors (n : ℕ) (f : Formula) (l c : ℕ) (R : Lab) : Type 0 where
  pub SL : 0 < 1000000 * 2 ^ n + 17650 * R.L
  pub SC : 0 < (10000 * 2 ^ n + 131 * chroma_of R) * 1000
  pub Q : 0 < 2 ^ (n + 7)
  pub F : 0 < hue_w n (hue_q n R.a R.b)
  pub T : 0 < square R.a + square R.b → 0 < 1000000000 * chroma_of R
  pub P_and_SH : 0 < 2 ^ n
  pub DL : 0 < factor_under f l * (semi_axes n f R).SL
  pub DC : 0 < factor_under f c * (semi_axes n f R).SC
  pub DH : 0 < (semi_axes n f R).SH

pub factor_under-pos : (f : Formula) {l : ℕ} → 0 < l → 0 < factor_under f l
factor_under-pos CIELAB h = omega arith
factor_under-pos CIE94 h = h
factor_under-pos CMC h = h

pub divisors : (n : ℕ) → 20 ≤ n → (f : Formula) {l c : ℕ} → Factor l → Factor c → (R : Lab) → Divisors n f l c R
divisors n from20 f hl hc R =
    let u = pow_pos n in
    let s = semi_axes_at_least n from20 f R in
    record {
      SL = omega arith;
      SC = omega arith;
      Q = pow_pos (n + 7);
      F = hue_w-pos n (hue_q n R.a R.b);
      T = λ some. omega (arith, chroma-pos R.a R.b some);
      P_and_SH = u;
      DL = mul-pos (factor_under-pos f (omega (arith, hl.low))) (omega arith);
      DC = mul-pos (factor_under-pos f (omega (arith, hc.low))) (omega arith);
      DH = omega arith;
    }

-- ---- what each verdict says of DE and the tolerance, both in thousandths of a unit, of which 2 · 2 ^ n are 0.002

abbrev pub Says : (n tolerance DE : ℕ) → Verdict → Type 0
Says n tolerance DE Near = (tolerance ≤ DE + 2 * 2 ^ n) × (DE ≤ tolerance + 2 * 2 ^ n)
Says n tolerance DE Pass = DE + 2 * 2 ^ n < tolerance
Says n tolerance DE Fail = tolerance + 2 * 2 ^ n < DE

pub compared-says : (n tolerance DE : ℕ) → Says n tolerance DE (compared n tolerance DE)
unfolding compared
compared-says n tolerance DE = near (leb ∣ change tolerance DE ∣ (2 * 2 ^ n)) refl
  where
    far :
        2 * 2 ^ n < ∣ change tolerance DE ∣ → (b : Bool) → ltb DE tolerance ≡ b → Says n tolerance DE (cond b Pass Fail)
    far h true e = omega (arith, abs-change tolerance DE, ltb-true DE tolerance e)
    far h false e = omega (arith, abs-change tolerance DE, ltb-false DE tolerance e)

    near :
        (b : Bool) → leb ∣ change tolerance DE ∣ (2 * 2 ^ n) ≡ b →
        Says n tolerance DE (cond b Near (cond (ltb DE tolerance) Pass Fail))
    near true e =
        let h : ∣ change tolerance DE ∣ ≤ 2 * 2 ^ n = leb-true _ _ e in
        (omega (arith, abs-change tolerance DE), omega (arith, abs-change tolerance DE))
    near false e = far (leb-false _ _ e) (ltb DE tolerance) refl

-- of a tolerance in thousandths and a DE in units
pub verdict-says : (n tolerance DE : ℕ) → Says n (tolerance * 2 ^ n) (1000 * DE) (verdict n tolerance DE)
unfolding verdict
verdict-says n tolerance DE = compared-says n (tolerance * 2 ^ n) (1000 * DE)

pub within_of_near : (n tolerance DE : ℕ) → verdict n tolerance DE ≡ Near → Says n (tolerance * 2 ^ n) (1000 * DE) Near
within_of_near n tolerance DE e = rw e at (verdict-says n tolerance DE)

pub below_of_pass : (n tolerance DE : ℕ) → verdict n tolerance DE ≡ Pass → 1000 * DE + 2 * 2 ^ n < tolerance * 2 ^ n
below_of_pass n tolerance DE e = rw e at (verdict-says n tolerance DE)

pub above_of_fail : (n tolerance DE : ℕ) → verdict n tolerance DE ≡ Fail → tolerance * 2 ^ n + 2 * 2 ^ n < 1000 * DE
above_of_fail n tolerance DE e = rw e at (verdict-says n tolerance DE)
