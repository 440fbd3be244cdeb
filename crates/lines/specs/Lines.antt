-- docs/SCOPE.md 10: what the lines of a report say after their key. `Lines/Nearest.antt` says which figures they show,
-- `Lines/Words.antt` how long each word can be, `Lines/Laws.antt` has the pieces of a hue, `Lines/Longest.antt` how long
-- each line can be. Assumes nothing.
use Rattle.std.specs.Prelude.{Bool, false, cond, List, [], ◌∷◌, ℕ, ◌^◌, ℤ}
use Rattle.rounding.specs.Signed.{∣◌∣, minus}
use Rattle.sheet.specs.declared.verdict.Verdict.{Verdict}
use Rattle.sheet.specs.declared.verdict.Verdict.TheVariants.{Near, Pass, Fail}
use Rattle.names.specs.declared.Lightness.{Lightness}
use Rattle.names.specs.declared.Lightness.TheVariants as L
use Rattle.names.specs.declared.Chroma.{Chroma}
use Rattle.names.specs.declared.Chroma.TheVariants as C
use Rattle.names.specs.declared.Axis.{Axis}
use Rattle.names.specs.declared.Axis.TheVariants.{Redder, Yellower, Greener, Bluer}
use Rattle.names.specs.declared.Hue.{Hue}
use Rattle.names.specs.declared.Hue.TheVariants as H
use Rattle.text.specs.Ascii.{ascii}
use Rattle.text.specs.Put.{joined}
use Rattle.text.specs.Decimal.{with_places, shown_as}
use Rattle.text.specs.declared.decimal.Shown.{Shown}
pub mod Nearest
pub mod Words
pub mod Laws
pub mod Longest

-- ---- words

abbrev pub lightness_word : Lightness → List ℕ
lightness_word L.Lighter = ascii "lighter"
lightness_word L.Darker = ascii "darker"
lightness_word L.Equal = ascii "equal"

abbrev pub chroma_word : Chroma → List ℕ
chroma_word C.More = ascii "more"
chroma_word C.Less = ascii "less"
chroma_word C.Equal = ascii "equal"

abbrev pub axis_word : Axis → List ℕ
axis_word Redder = ascii "redder"
axis_word Yellower = ascii "yellower"
axis_word Greener = ascii "greener"
axis_word Bluer = ascii "bluer"

-- yellower(redder)
abbrev pub hue_word : Hue → List ℕ
hue_word H.Equal = ascii "equal"
hue_word (H.Towards name bracket) = joined (axis_word name ∷ ascii "(" ∷ axis_word bracket ∷ ascii ")" ∷ [])

abbrev pub verdict_word : Verdict → List ℕ
verdict_word Near = ascii "near"
verdict_word Pass = ascii "pass"
verdict_word Fail = ascii "fail"

-- under CMC an achromatic specimen withholds DC, DH and their names
abbrev pub unless_withheld : (withheld : Bool) → List ℕ → List ℕ
unless_withheld withheld s = cond withheld (ascii "withheld") s

-- ---- numbers

-- units of 2 ^ -20, to the nearest four decimals
abbrev pub figure : (below : Bool) (m : ℕ) → Shown
figure below m = shown_as 4 (2 ^ 20) below m

abbrev pub signed_figure : ℤ → Shown
signed_figure z = figure (minus z) ∣ z ∣

-- thousandths as they were given, with three
abbrev pub thousandths : ℕ → Shown
thousandths m = with_places 3 false m
