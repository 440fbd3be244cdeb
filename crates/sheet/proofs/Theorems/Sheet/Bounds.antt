-- What the sheet's quantities are at most, or at least, at 20 places on colours of the grid: so that the code's numbers
-- fit 64 bits and no divisor is 0. Assumes nothing.
use Rattle.std.specs.Prelude.{Bool, true, false, cond, ℕ, ◌+◌, ◌-◌, ◌*◌, ◌/◌, ◌^◌, ◌≤◌, ◌<◌, ℤ, pos, ◌-ℤ◌}
use Rattle.std.proofs.Common.{mul-le-mul, mul-le-mul_left, le_of_lt, arith}
use Rattle.rounding.specs.Fraction.{le-div, div-le}
use Rattle.rounding.specs.Root.{root_of}
use Rattle.rounding.proofs.Theorems.Root.Laws.{root-lt}
use Rattle.rounding.specs.Signed.{∣◌∣, square, minus, signed}
use Rattle.rounding.proofs.Theorems.Signed.Laws.{abs-sub-le, abs-signed}
use Rattle.colour.specs.declared.conversion.GridColour.{GridColour}
use Rattle.colour.specs.Conversion.{Lab, at_places}
use Rattle.colour.specs.Conversion.Ranges.{OnGrid}
use Rattle.colour.proofs.Theorems.Conversion.Places.{at_places_20, units}
use Rattle.sheet.specs.Settings.{Factor}
use Rattle.sheet.specs.Ranges.{Both, InRange, SemiAxis, SemiAxesInRange, Moved, Components, ComparisonInRange}
use Rattle.sheet.specs.Sheet.{chroma, chroma_of, distance², same_hue, hue_change, semi_axis_c94, semi_axis_h94}
use Rattle.sheet.specs.Sheet.{semi_axis_h, hue_semi_axis, component, component_h, total}
use Rattle.sheet.specs.Sheet.{factor_under, differences, sheet, comparison, semi_axes_cielab, semi_axes_cie94}
use Rattle.sheet.specs.Sheet.{semi_axes_cmc, semi_axes, shift}
use Rattle.sheet.proofs.Theorems.Sheet.Laws.{chroma-lt, le-semi_axis_l, semi_axis_l-le, le-semi_axis_c, semi_axis_c-le}
use Rattle.sheet.proofs.Theorems.Sheet.Laws.{semi_axis_h-le, hue_semi_axis_by_G, change-le}
use Rattle.sheet.proofs.Theorems.Sheet.Laws.{semi_axes_C, abs-component, abs-component_h}
use Rattle.sheet.specs.declared.semi_axes.SemiAxes.{SemiAxes}
use Rattle.sheet.specs.declared.shift.Shift.{Shift}
use Rattle.sheet.specs.declared.formula.Formula.{Formula}
use Rattle.sheet.specs.declared.formula.Formula.TheVariants.{CIELAB, CIE94, CMC}

-- ---- a colour of the grid

pub hue_of_grid : {c : GridColour} → OnGrid c → Both (2 ^ 28) c.a.0 c.b.0
hue_of_grid h = record { first = h.a; second = h.b }

pub chroma_of-lt : {c : GridColour} → OnGrid c → chroma_of (at_places 20 c) < 2 ^ 29
chroma_of-lt {c} h = rw (at_places_20 c) (chroma-lt c.a.0 c.b.0 (hue_of_grid h))

-- ---- the semi-axes

-- SH: SC is at least 0.638, G at least 0.36
semi_axis_h-low : (SC G : ℕ) → 668991 ≤ SC → 377487 ≤ G → 240000 ≤ semi_axis_h 20 SC G
unfolding semi_axis_h
semi_axis_h-low SC G h g = le-div _ _ _ (omega arith) (omega (arith, mul-le-mul h g))

hue_semi_axis-fits : (a b : ℤ) (SC : ℕ) → 668991 ≤ SC → SC < 2 ^ 40 → SemiAxis (hue_semi_axis 20 a b (chroma a b) SC)
hue_semi_axis-fits a b SC h g =
    let by = hue_semi_axis_by_G 20 a b SC in
    rw by.is
    (record { low = semi_axis_h-low SC by.G h by.low; high = omega (arith, semi_axis_h-le 20 {SC = SC} by.high) })

semi_axes_in_range : (f : Formula) (R : Lab) → Both (2 ^ 28) R.a R.b → SemiAxesInRange (semi_axes 20 f R)
unfolding semi_axes semi_axes_cielab semi_axes_cie94 semi_axes_cmc semi_axis_c94 semi_axis_h94
semi_axes_in_range CIELAB R h = record {
  light = record { low = omega arith; high = omega arith };
  chroma = record { low = omega arith; high = omega arith };
  hue = record { low = omega arith; high = omega arith };
  SL = omega arith;
  SC = omega arith;
}
semi_axes_in_range CIE94 R h = let small = chroma-lt R.a R.b h in record {
  light = record { low = omega arith; high = omega arith };
  chroma = record { low = omega arith; high = omega arith };
  hue = record { low = omega arith; high = omega arith };
  SL = omega arith;
  SC = omega arith;
}
semi_axes_in_range CMC R h =
    let l = le-semi_axis_l 20 R.L in
    let lt = semi_axis_l-le 20 R.L in
    let c = le-semi_axis_c 20 (chroma R.a R.b) in
    let ct = semi_axis_c-le 20 (chroma R.a R.b) in
    record {
      light = record { low = omega arith; high = omega arith };
      chroma = record { low = omega arith; high = omega arith };
      hue = hue_semi_axis-fits R.a R.b _ c (omega arith);
      SL = l;
      SC = c;
    }

pub semi_axes_of_grid : (f : Formula) {R : GridColour} → OnGrid R → SemiAxesInRange (semi_axes 20 f (at_places 20 R))
semi_axes_of_grid f {R} h = rw (at_places_20 R) (semi_axes_in_range f (units R) (hue_of_grid h))

pub semi_axes_C_lt : (f : Formula) {R : GridColour} → OnGrid R → (semi_axes 20 f (at_places 20 R)).C < 2 ^ 29
semi_axes_C_lt f {R} h = rw (semi_axes_C 20 f (at_places 20 R)) (chroma_of-lt h)

-- ---- the shift

distance²-le : {a_r b_r a_t b_t : ℤ} → Both (2 ^ 28) a_r b_r → Both (2 ^ 28) a_t b_t → distance² a_r b_r a_t b_t ≤ 2 ^ 59
unfolding distance²
distance²-le {a_r} {b_r} {a_t} {b_t} h g = omega (arith, mul-le-mul da da, mul-le-mul db db)
  where
    da : ∣ a_t -ℤ a_r ∣ ≤ 2 ^ 29
    da = omega (arith, abs-sub-le a_t a_r)

    db : ∣ b_t -ℤ b_r ∣ ≤ 2 ^ 29
    db = omega (arith, abs-sub-le b_t b_r)

hue_change-le : (D : ℕ) (ΔC x y : ℤ) → D ≤ 2 ^ 59 → ∣ hue_change D ΔC x y ∣ ≤ 759250125
unfolding hue_change
hue_change-le D ΔC x y h = either (same_hue x y)
  where
    either : (b : Bool) → ∣ cond b (pos 0) (signed (minus x) (root_of 2 (D - square ΔC))) ∣ ≤ 759250125
    either true = omega arith
    either false = rw abs-signed (omega (arith, root-lt 2 (D - square ΔC) 759250126 (omega arith) (omega arith)))

pub shift_of_grid : {R T : GridColour} → OnGrid R → OnGrid T → Moved (shift (at_places 20 R) (at_places 20 T))
unfolding shift
shift_of_grid {R} {T} h g =
    let r = hue_of_grid h in
    let t = hue_of_grid g in
    rw (at_places_20 R, at_places_20 T)
    (record {
      L = change-le (120 * 2 ^ 20) h.L g.L;
      C = change-le (2 ^ 29) (le_of_lt (chroma-lt R.a.0 R.b.0 r)) (le_of_lt (chroma-lt T.a.0 T.b.0 t));
      H = hue_change-le _ _ _ _ (distance²-le r t);
    })

-- ---- line 8

pub factor_under-fits : (f : Formula) {l : ℕ} → Factor l → Factor (factor_under f l)
factor_under-fits CIELAB h = record { low = omega arith; high = omega arith }
factor_under-fits CIE94 h = h
factor_under-fits CMC h = h

quotient_le : (k m d x e q : ℕ) → x ≤ m → e ≤ d → 0 < e → k * m < (q + 1) * e → k * x / d ≤ q
quotient_le k m d x e q hx he pe h =
    div-le _ _ _ (omega arith) (omega (arith, mul-le-mul_left k hx, mul-le-mul_left (q + 1) he))

pub components-fit :
    {l c : ℕ} {S : SemiAxes} {Δ : Shift} →
    Factor l → Factor c → SemiAxesInRange S → Moved Δ →
    Components (component 20 l S.SL Δ.L) (component 20 c S.SC Δ.C) (component_h 20 S.SH Δ.H)
components-fit {l} {c} {S} {Δ} hl hc s m = record {
  L =
      rw abs-component (quotient_le 1048576000 (120 * 2 ^ 20) _ _ (500 * 535822) _ m.L (mul-le-mul hl.low s.SL)
      (omega arith) (omega arith));
  C =
      rw abs-component (quotient_le 1048576000 (2 ^ 29) _ _ (500 * 668991) _ m.C (mul-le-mul hc.low s.SC)
      (omega arith) (omega arith));
  H = rw abs-component_h (quotient_le 1048576 759250125 _ _ 240000 _ m.H s.hue.low (omega arith) (omega arith));
}

-- DE is below 4096
pub total-lt : {DL DC DH : ℤ} → Components DL DC DH → total DL DC DH < 2 ^ 32
unfolding total
total-lt h =
    root-lt 2 _ (2 ^ 32) (omega arith)
    (omega (arith, mul-le-mul h.L h.L, mul-le-mul h.C h.C, mul-le-mul h.H h.H))

-- ---- the sheet

module _ (f : Formula) {l c : ℕ} {R T : GridColour} (h : InRange l c R T) where
  sheet-components : Components (sheet 20 f l c R T).DL (sheet 20 f l c R T).DC (sheet 20 f l c R T).DH
  unfolding sheet differences
  sheet-components =
      components-fit (factor_under-fits f h.lightness) (factor_under-fits f h.chroma)
      (semi_axes_of_grid f h.reference)
      (shift_of_grid h.reference h.specimen)

  pub sheet-DE-lt : (sheet 20 f l c R T).DE < 2 ^ 32
  unfolding sheet differences
  sheet-DE-lt = total-lt sheet-components

  pub comparison_in_range : ComparisonInRange (comparison 20 f l c R T)
  unfolding comparison
  comparison_in_range = record { C = chroma_of-lt h.specimen; components = sheet-components; DE = sheet-DE-lt }
