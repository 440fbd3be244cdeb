-- docs/SCOPE.md 10.1: the twelve lines in their order, to be read beside the case of 11.1. What each says is defined in
-- `lines`. `Report/Cases.antt` has that case, `Report/Laws.antt` the lengths, `Report/Longest.antt` the longest report,
-- `Report/Withheld.antt` the lines that may be withheld. Assumes nothing.
use Rattle.std.specs.Prelude.{Bool, false, List, [], ◌∷◌, ℕ}
use Rattle.sheet.specs.declared.differences.Differences.{Differences}
use Rattle.sheet.specs.declared.settings.Settings.{Settings}
use Rattle.standard.specs.declared.judge.Judgement.{Judgement}
use Rattle.text.specs.Ascii.{ascii}
use Rattle.text.specs.Decimal.{decimal_text}
use Rattle.text.specs.Names.{formula_name, white_name}
use Rattle.text.specs.Put.{joined, line}
use Rattle.lines.specs.Lines.{lightness_word, chroma_word, hue_word, verdict_word, unless_withheld, thousandths, figure}
use Rattle.lines.specs.Lines.{signed_figure}
pub mod Laws
pub mod Cases
pub mod Longest
pub mod Lines
pub mod Withheld

-- what the difference was worked out by
unfoldable pub setting_lines : Settings → List (List ℕ)
setting_lines s =
    line (ascii "formula=") (formula_name s.formula)
    ∷ line (ascii "white=") (white_name s.white)
    ∷ line (ascii "l=") (decimal_text (thousandths s.l))
    ∷ line (ascii "c=") (decimal_text (thousandths s.c))
    ∷ []

-- what it is, in numbers
unfoldable pub figure_lines : (withheld : Bool) → Differences → List (List ℕ)
figure_lines withheld d =
    line (ascii "DE=") (decimal_text (figure false d.DE))
    ∷ line (ascii "DL=") (decimal_text (signed_figure d.DL))
    ∷ line (ascii "DC=") (unless_withheld withheld (decimal_text (signed_figure d.DC)))
    ∷ line (ascii "DH=") (unless_withheld withheld (decimal_text (signed_figure d.DH)))
    ∷ []

-- and in words
unfoldable pub word_lines : Judgement → List (List ℕ)
word_lines j =
    line (ascii "lightness=") (lightness_word j.lightness)
    ∷ line (ascii "chroma=") (unless_withheld j.withheld (chroma_word j.chroma))
    ∷ line (ascii "hue=") (unless_withheld j.withheld (hue_word j.hue))
    ∷ line (ascii "verdict=") (verdict_word j.verdict)
    ∷ []

abbrev pub report_parts : Judgement → List (List ℕ)
report_parts j =
    joined (setting_lines j.standard.settings) ∷ joined (figure_lines j.withheld j.comparison.differences)
    ∷ joined (word_lines j) ∷ []

unfoldable pub report_text : Judgement → List ℕ
report_text j = joined (report_parts j)
