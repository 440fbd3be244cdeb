-- docs/SCOPE.md 10.4: the report with four lines withheld and with none, and exactly when it is which; and that it is
-- the report of the rule before version 1.3, byte for byte, but where under CMC the test specimen alone is achromatic.
-- Assumes nothing.
use Rattle.std.specs.Prelude.{◌≡◌, true, false, List, [], ◌∷◌, ℕ}
use Rattle.std.proofs.Common.{ap}
use Rattle.std.proofs.Math.Bool.{not-eq-not}
use Rattle.colour.specs.declared.conversion.GridColour.{GridColour}
use Rattle.sheet.specs.declared.differences.Differences.{Differences}
use Rattle.names.proofs.Theorems.Names.Withheld.{Achromatic, Withholds, TestAlone}
use Rattle.standard.specs.Judgement.{judgement_of}
use Rattle.standard.proofs.Theorems.Judgement.Withheld.{judgement-withheld, judgement_by_reference, judgement_as_before}
use Rattle.standard.specs.declared.accept.Standard.{Standard}
use Rattle.standard.specs.declared.judge.Judgement.{Judgement}
use Rattle.text.specs.Ascii.{ascii}
use Rattle.text.specs.Decimal.{decimal_text}
use Rattle.text.specs.Put.{joined, line}
use Rattle.lines.specs.Lines.{lightness_word, chroma_word, hue_word, verdict_word, figure, signed_figure}
use Rattle.report.specs.Report.{setting_lines, figure_lines, word_lines, report_text}

-- the lines of a judgement, of which DC=, DH=, chroma= and hue= say this: written out once more, so that what follows
-- can be read by itself
abbrev lines_with : Judgement → (DC DH chroma hue : List ℕ) → List ℕ
lines_with j DC DH chroma hue =
    let d : Differences = j.comparison.differences in
    joined
    (joined (setting_lines j.standard.settings)
    ∷ joined
    (line (ascii "DE=") (decimal_text (figure false d.DE))
    ∷ line (ascii "DL=") (decimal_text (signed_figure d.DL))
    ∷ line (ascii "DC=") DC
    ∷ line (ascii "DH=") DH
    ∷ [])
    ∷ joined
    (line (ascii "lightness=") (lightness_word j.lightness)
    ∷ line (ascii "chroma=") chroma
    ∷ line (ascii "hue=") hue
    ∷ line (ascii "verdict=") (verdict_word j.verdict)
    ∷ [])
    ∷ [])

-- four withheld, and none
abbrev pub four_withheld : Judgement → List ℕ
four_withheld j = lines_with j (ascii "withheld") (ascii "withheld") (ascii "withheld") (ascii "withheld")

abbrev pub none_withheld : Judgement → List ℕ
none_withheld j =
    lines_with j (decimal_text (signed_figure j.comparison.differences.DC))
    (decimal_text (signed_figure j.comparison.differences.DH))
    (chroma_word j.chroma) (hue_word j.hue)

module _ (j : Judgement) where
  report-four : j.withheld ≡ true → report_text j ≡ four_withheld j
  unfolding report_text figure_lines word_lines
  report-four e = rw e

  report_none : j.withheld ≡ false → report_text j ≡ none_withheld j
  unfolding report_text figure_lines word_lines
  report_none e = rw e

module _ (s : Standard) (T : GridColour) where
  -- FOUR LINES ARE WITHHELD WHERE THE FORMULA IS CMC AND ONE OF THE TWO COLOURS IS ACHROMATIC, OR BOTH ARE
  pub report-withheld :
      Withholds s.settings.formula s.colour T → report_text (judgement_of s T) ≡ four_withheld (judgement_of s T)
  report-withheld h = report-four (judgement_of s T) ((judgement-withheld s T).1 h)

  -- AND NONE OTHERWISE
  pub report_whole :
      ¬ Withholds s.settings.formula s.colour T → report_text (judgement_of s T) ≡ none_withheld (judgement_of s T)
  report_whole h = report_none (judgement_of s T) (not-eq-not.0 (λ e. h ((judgement-withheld s T).0 e)))

  -- THE BYTES OF BEFORE, BUT WHERE UNDER CMC THE TEST SPECIMEN ALONE IS ACHROMATIC
  pub every-other-report :
      ¬ TestAlone s.settings.formula s.colour T →
      report_text (judgement_of s T) ≡ report_text (judgement_by_reference s T)
  every-other-report h = ap report_text (judgement_as_before s T h)

  -- AND SO WHEREVER THE TEST SPECIMEN IS NOT ACHROMATIC
  pub report_as_before : ¬ Achromatic T → report_text (judgement_of s T) ≡ report_text (judgement_by_reference s T)
  report_as_before h = every-other-report (λ alone. h alone.2)
