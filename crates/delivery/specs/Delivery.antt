-- docs/SCOPE.md 13.2, 13.3: the mean colour of a delivery, and each cone's DE from it. `Delivery/Cases.antt` has some
-- figures, `Delivery/Laws.antt` what callers go by, `Delivery/Facts.antt` what a dyer may ask. Assumes nothing.
use Rattle.std.specs.Prelude.{List, map, ℕ, ℤ}
use Rattle.rounding.specs.Mean.{mean}
use Rattle.reading.specs.Grid.{grid_of}
use Rattle.reading.specs.declared.grid.Grid.{Grid}
use Rattle.colour.specs.declared.conversion.GridColour.{GridColour}
use Rattle.sheet.specs.Sheet.{sheet}
use Rattle.sheet.specs.declared.formula.Formula.TheVariants.{CMC}

-- one coordinate of each cone, in units of the grid
abbrev pub units_of : (GridColour → Grid) → List GridColour → List ℤ
units_of part cs = map (λ (c : GridColour). (part c).0) cs

-- THE MEAN COLOUR: of L*, of a* and of b* by itself, to the nearest unit, a tie away from zero
unfoldable pub mean_colour : List GridColour → GridColour
mean_colour cs =
    record {
      L = grid_of (mean (units_of (λ c. c.L) cs));
      a = grid_of (mean (units_of (λ c. c.a) cs));
      b = grid_of (mean (units_of (λ c. c.b) cs));
    }

-- A CONE'S DE: the sheet's under CMC, the mean M as the reference and the cone T as the test specimen
unfoldable pub difference_from : (l c : ℕ) (M T : GridColour) → ℕ
difference_from l c M T = (sheet 20 CMC l c M T).DE

-- of each cone
abbrev pub differences_from : (l c : ℕ) (M : GridColour) → List GridColour → List ℕ
differences_from l c M cs = map (difference_from l c M) cs

abbrev pub differences : (l c : ℕ) → List GridColour → List ℕ
differences l c cs = differences_from l c (mean_colour cs) cs
