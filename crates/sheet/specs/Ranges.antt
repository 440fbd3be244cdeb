-- The ranges that the functions ask for. Assumes nothing.
use Rattle.std.specs.Prelude.{ℕ, ◌*◌, ◌^◌, ◌≤◌, ◌<◌, ℤ}
use Rattle.rounding.specs.Signed.{∣◌∣}
use Rattle.colour.specs.declared.conversion.GridColour.{GridColour}
use Rattle.colour.specs.Conversion.Ranges.{OnGrid}
use Rattle.sheet.specs.Settings.{Factor}
use Rattle.sheet.specs.declared.comparison.Comparison.{Comparison}
use Rattle.sheet.specs.declared.semi_axes.SemiAxes.{SemiAxes}
use Rattle.sheet.specs.declared.shift.Shift.{Shift}

-- ---- what callers show

-- what the whole sheet is worked from
pub record InRange (l c : ℕ) (R T : GridColour) : Type 0 where
  pub lightness : Factor l
  pub chroma : Factor c
  pub reference : OnGrid R
  pub specimen : OnGrid T

-- ---- signed numbers

-- two numbers, each of magnitude at most m
pub record Both (m : ℕ) (x y : ℤ) : Type 0 where
  pub first : ∣ x ∣ ≤ m
  pub second : ∣ y ∣ ≤ m

-- the four factors of two products
pub record Four (m : ℕ) (p q r s : ℤ) : Type 0 where
  pub first : Both m p q
  pub second : Both m r s

-- ---- lines 1 and 2

-- a shift between two colours of the grid: D² is at most 2 ^ 59, whose root is below 759250125
pub record Moved (Δ : Shift) : Type 0 where
  pub L : ∣ Δ.L ∣ ≤ 120 * 2 ^ 20
  pub C : ∣ Δ.C ∣ ≤ 2 ^ 29
  pub H : ∣ Δ.H ∣ ≤ 759250125

-- ---- line 8

-- a semi-axis at 20 places: none is below 240000 units
pub record SemiAxis (s : ℕ) : Type 0 where
  pub low : 240000 ≤ s
  pub high : s < 2 ^ 40

-- three semi-axes, each at least what the sheet's constants make it
pub record SemiAxesInRange (S : SemiAxes) : Type 0 where
  pub light : SemiAxis S.SL
  pub chroma : SemiAxis S.SC
  pub hue : SemiAxis S.SH
  pub SL : 535822 ≤ S.SL
  pub SC : 668991 ≤ S.SC

-- DL, DC, DH: what these semi-axes and shifts can give; the sum of their squares is below 2 ^ 64
pub record Components (DL DC DH : ℤ) : Type 0 where
  pub L : ∣ DL ∣ ≤ 500000000
  pub C : ∣ DC ∣ ≤ 1700000000
  pub H : ∣ DH ∣ ≤ 3400000000

-- all that the sheet finds of a test specimen on the grid
pub record ComparisonInRange (d : Comparison) : Type 0 where
  pub C : d.C < 2 ^ 29
  pub components : Components d.differences.DL d.differences.DC d.differences.DH
  pub DE : d.differences.DE < 2 ^ 32
