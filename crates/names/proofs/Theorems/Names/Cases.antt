-- What is withheld of some pairs, by computing: a tape mill's, and those at the ends of docs/SCOPE.md 7.3. No proof
-- cites this. Assumes nothing.
use Rattle.std.specs.Prelude.{◌≡◌, refl, true, false, ℤ, pos, negsuc}
use Rattle.rounding.specs.Root.{root_of}
use Rattle.reading.specs.Grid.{grid_of}
use Rattle.colour.specs.Conversion.{at_places}
use Rattle.colour.specs.declared.conversion.GridColour.{GridColour}
use Rattle.sheet.specs.Sheet.{chroma, chroma_of}
use Rattle.sheet.specs.declared.formula.Formula.TheVariants.{CIELAB, CIE94, CMC}
use Rattle.names.specs.Names.{achromatic, withheld_by}

-- L* plays no part
abbrev lab : (a b : ℤ) → GridColour
lab a b = record { L = grid_of (pos 0); a = grid_of a; b = grid_of b }

-- a* = 0.35 and b* = 4.29: C is 4.3
abbrev cream : GridColour
cream = lab (pos 367002) (pos 4498391)

-- a* = -0.1 and b* = 2.8
abbrev nearly_white : GridColour
nearly_white = lab (negsuc 104857) (pos 2936013)

-- a* = 4
abbrev four : GridColour
four = lab (pos 4194304) (pos 0)

-- a unit more
abbrev over_four : GridColour
over_four = lab (pos 4194305) (pos 0)

-- a* = 4 and b* = 0.001: C, rounded down, is still 4
abbrev hardly_over_four : GridColour
hardly_over_four = lab (pos 4194304) (pos 1049)

pub record WithheldCases : Type 0 where
  pub test-alone : withheld_by CMC cream nearly_white ≡ true
  pub reference-alone : withheld_by CMC nearly_white cream ≡ true
  pub both : withheld_by CMC nearly_white four ≡ true
  pub neither : withheld_by CMC cream cream ≡ false
  pub test_at_4 : withheld_by CMC cream four ≡ true
  pub test_over_4 : withheld_by CMC cream over_four ≡ false
  pub rounded_to_4 : chroma_of (at_places 20 hardly_over_four) ≡ 4194304
  pub test_rounded_to_4 : withheld_by CMC cream hardly_over_four ≡ false
  pub by_cie94 : withheld_by CIE94 nearly_white nearly_white ≡ false
  pub by_cielab : withheld_by CIELAB nearly_white nearly_white ≡ false

pub withheld_cases : WithheldCases
unfolding root_of at_places chroma achromatic
withheld_cases = record {
  test-alone = refl;
  reference-alone = refl;
  both = refl;
  neither = refl;
  test_at_4 = refl;
  test_over_4 = refl;
  rounded_to_4 = refl;
  test_rounded_to_4 = refl;
  by_cie94 = refl;
  by_cielab = refl;
}
