-- How long the three parts of a report are, and the report of them; and the lines whose numbers code has as they are
-- shown. Assumes nothing.
use Rattle.std.specs.Prelude.{◌≡◌, Bool, true, false, List, [], ◌∷◌, ℕ, ◌+◌, length}
use Rattle.std.proofs.Common.{arith}
use Rattle.std.proofs.Math.ListN.{length-append}
use Rattle.sheet.specs.declared.differences.Differences.{Differences}
use Rattle.sheet.specs.declared.settings.Settings.{Settings}
use Rattle.standard.specs.declared.judge.Judgement.{Judgement}
use Rattle.text.specs.Ascii.{ascii}
use Rattle.text.specs.Decimal.{decimal_text}
use Rattle.text.specs.Names.{formula_name, white_name}
use Rattle.text.specs.Put.{joined, line}
use Rattle.text.proofs.Theorems.Put.Laws.{line-length}
use Rattle.text.specs.declared.decimal.Shown.{Shown}
use Rattle.lines.specs.Lines.{lightness_word, chroma_word, hue_word, verdict_word, unless_withheld, thousandths, figure}
use Rattle.lines.specs.Lines.{signed_figure}
use Rattle.report.specs.Report.{setting_lines, figure_lines, word_lines, report_text}

-- ---- lengths

module _ (s : Settings) where
  pub settings-length :
      length (joined (setting_lines s))
      ≡ 22 + length (formula_name s.formula) + length (white_name s.white) + length
      (decimal_text (thousandths s.l))
      + length (decimal_text (thousandths s.c))
  unfolding setting_lines
  settings-length = simp (length-append, line-length) (omega arith)

module _ (d : Differences) where
  pub figures-length-withheld :
      length (joined (figure_lines true d))
      ≡ 4 + length (decimal_text (figure false d.DE)) + (4 + length (decimal_text (signed_figure d.DL))) + 24
  unfolding figure_lines
  figures-length-withheld = simp (length-append, line-length) (omega arith)

  pub figures-length :
      length (joined (figure_lines false d))
      ≡ 4 + length (decimal_text (figure false d.DE)) + (4 + length (decimal_text (signed_figure d.DL)))
      + (4 + length (decimal_text (signed_figure d.DC))) + (4 + length (decimal_text (signed_figure d.DH)))
  unfolding figure_lines
  figures-length = simp (length-append, line-length) (omega arith)

module _ (j : Judgement) where
  pub words-length :
      length (joined (word_lines j))
      ≡ 33 + length (lightness_word j.lightness) + length (unless_withheld j.withheld (chroma_word j.chroma))
      + length (unless_withheld j.withheld (hue_word j.hue)) + length (verdict_word j.verdict)
  unfolding word_lines
  words-length = simp (length-append, line-length) (omega arith)

  pub report-length :
      length (report_text j)
      ≡ length (joined (setting_lines j.standard.settings)) + length
      (joined (figure_lines j.withheld j.comparison.differences))
      + length (joined (word_lines j))
  unfolding report_text
  report-length = simp length-append (omega arith)

-- ---- the lines with their numbers as code has them

abbrev pub settings_shown : Settings → (l c : Shown) → List (List ℕ)
settings_shown s l c =
    line (ascii "formula=") (formula_name s.formula)
    ∷ line (ascii "white=") (white_name s.white)
    ∷ line (ascii "l=") (decimal_text l)
    ∷ line (ascii "c=") (decimal_text c)
    ∷ []

pub settings-shown :
    (s : Settings) {l c : Shown} → l ≡ thousandths s.l → c ≡ thousandths s.c →
    setting_lines s ≡ settings_shown s l c
unfolding setting_lines
settings-shown s el ec = rw (el, ec)

abbrev pub figures_shown : (withheld : Bool) (DE DL DC DH : Shown) → List (List ℕ)
figures_shown withheld DE DL DC DH =
    line (ascii "DE=") (decimal_text DE)
    ∷ line (ascii "DL=") (decimal_text DL)
    ∷ line (ascii "DC=") (unless_withheld withheld (decimal_text DC))
    ∷ line (ascii "DH=") (unless_withheld withheld (decimal_text DH))
    ∷ []

pub figures-shown :
    (withheld : Bool) (d : Differences) {DE DL DC DH : Shown} →
    DE ≡ figure false d.DE → DL ≡ signed_figure d.DL → DC ≡ signed_figure d.DC → DH ≡ signed_figure d.DH →
    figure_lines withheld d ≡ figures_shown withheld DE DL DC DH
unfolding figure_lines
figures-shown withheld d e f g h = rw (e, f, g, h)
