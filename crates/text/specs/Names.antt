-- docs/SCOPE.md 4, 9.2: the names of formulas and whites. A ticket says them and a report prints them.
-- Assumes nothing.
use Rattle.std.specs.Prelude.{ℕ, List}
use Rattle.colour.specs.declared.white.White.{White}
use Rattle.colour.specs.declared.white.White.TheVariants.{D65Ten, D65Two, CTen, CTwo}
use Rattle.sheet.specs.declared.formula.Formula.{Formula}
use Rattle.sheet.specs.declared.formula.Formula.TheVariants.{CIELAB, CIE94, CMC}
use Rattle.text.specs.Ascii.{ascii}

abbrev pub formula_name : Formula → List ℕ
formula_name CIELAB = ascii "CIELAB"
formula_name CIE94 = ascii "CIE94"
formula_name CMC = ascii "CMC"

abbrev pub white_name : White → List ℕ
white_name D65Ten = ascii "D65/10"
white_name D65Two = ascii "D65/2"
white_name CTen = ascii "C/10"
white_name CTwo = ascii "C/2"
