-- How long the longest word of each kind is. Assumes nothing.
use Rattle.std.specs.Prelude.{Bool, true, false, List, ℕ, ◌≤◌, length, max}
use Rattle.std.proofs.Common.{arith}
use Rattle.colour.specs.declared.white.White.{White}
use Rattle.colour.specs.declared.white.White.TheVariants.{D65Ten, D65Two, CTen, CTwo}
use Rattle.sheet.specs.declared.formula.Formula.{Formula}
use Rattle.sheet.specs.declared.formula.Formula.TheVariants.{CIELAB, CIE94, CMC}
use Rattle.sheet.specs.declared.verdict.Verdict.{Verdict}
use Rattle.sheet.specs.declared.verdict.Verdict.TheVariants.{Near, Pass, Fail}
use Rattle.names.specs.declared.Lightness.{Lightness}
use Rattle.names.specs.declared.Lightness.TheVariants as L
use Rattle.names.specs.declared.Chroma.{Chroma}
use Rattle.names.specs.declared.Chroma.TheVariants as C
use Rattle.names.specs.declared.Axis.{Axis}
use Rattle.names.specs.declared.Axis.TheVariants.{Redder, Yellower, Greener, Bluer}
use Rattle.text.specs.Names.{formula_name, white_name}
use Rattle.lines.specs.Lines.{lightness_word, chroma_word, axis_word, verdict_word, unless_withheld}

pub formula_most : (x : Formula) → length (formula_name x) ≤ 6
formula_most CIELAB = omega arith
formula_most CIE94 = omega arith
formula_most CMC = omega arith

pub white_most : (x : White) → length (white_name x) ≤ 6
white_most D65Ten = omega arith
white_most D65Two = omega arith
white_most CTen = omega arith
white_most CTwo = omega arith

pub lightness_most : (x : Lightness) → length (lightness_word x) ≤ 7
lightness_most L.Lighter = omega arith
lightness_most L.Darker = omega arith
lightness_most L.Equal = omega arith

pub chroma_most : (x : Chroma) → length (chroma_word x) ≤ 5
chroma_most C.More = omega arith
chroma_most C.Less = omega arith
chroma_most C.Equal = omega arith

pub axis_most : (x : Axis) → length (axis_word x) ≤ 8
axis_most Redder = omega arith
axis_most Yellower = omega arith
axis_most Greener = omega arith
axis_most Bluer = omega arith

pub verdict_most : (x : Verdict) → length (verdict_word x) ≤ 4
verdict_most Near = omega arith
verdict_most Pass = omega arith
verdict_most Fail = omega arith

-- withheld has eight bytes
pub unless_most :
    (withheld : Bool) (s : List ℕ) {most : ℕ} → length s ≤ most → length (unless_withheld withheld s) ≤ max 8 most
unless_most true s h = omega arith
unless_most false s h = omega arith
