-- The sheet and the comparison from their parts, over plain variables. Assumes nothing.
use mathlib.Core.Path.{◌≡◌}
use Prim.Native.Nat.{ℕ}
use lib.IntN.{ℤ}
use Rattle.colour.specs.declared.conversion.GridColour.{GridColour}
use Rattle.colour.specs.Conversion.{at_places}
use Rattle.sheet.specs.declared.comparison.Comparison.{Comparison}
use Rattle.sheet.specs.declared.differences.Differences.{Differences}
use Rattle.sheet.specs.declared.formula.Formula.{Formula}
use Rattle.sheet.specs.declared.scaled.Scaled.{Scaled}
use Rattle.sheet.specs.declared.semi_axes.SemiAxes.{SemiAxes}
use Rattle.sheet.specs.declared.shift.Shift.{Shift}
use Rattle.sheet.specs.Sheet.{chroma_of, semi_axes, shift, factor_under, differences, sheet, difference_on, cross_of, dot_of}
use Rattle.sheet.specs.Sheet.{comparison}

module _ (f : Formula) (l c : ℕ) (R T : GridColour) where
  -- the sheet from its parts
  pub sheet_is :
      {s : SemiAxes} {z : Shift} {lf cf : ℕ} {d : Differences} →
      s ≡ semi_axes 20 f (at_places 20 R) →
      z ≡ shift (at_places 20 R) (at_places 20 T) →
      lf ≡ factor_under f l →
      cf ≡ factor_under f c →
      d ≡ differences 20 lf cf s z →
      d ≡ sheet 20 f l c R T
  unfolding sheet
  sheet_is hs hz hl hc hd = cc

  -- the comparison from the sheet and the rest
  pub comparison_is :
      {C : ℕ} {z : Shift} {x y : ℤ} {d : Differences} {e : Scaled} →
      C ≡ chroma_of (at_places 20 T) →
      z ≡ shift (at_places 20 R) (at_places 20 T) →
      x ≡ cross_of R T →
      y ≡ dot_of R T →
      d ≡ sheet 20 f l c R T →
      e ≡ difference_on f d.DE →
      ◌≡◌ {A = Comparison} (record { C = C; shift = z; cross = x; dot = y; differences = d; scaled = e })
      (comparison 20 f l c R T)
  unfolding comparison
  comparison_is h_c hz hx hy hd he = rw (h_c, hz, hx, hy, he, hd)
