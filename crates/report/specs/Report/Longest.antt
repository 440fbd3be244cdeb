-- The longest report: 161 bytes, for every report that the sheet can give. Assumes nothing.
use Rattle.std.specs.Prelude.{◌≡◌, refl, Bool, true, false, ℕ, ◌+◌, ◌≤◌, ◌<◌, ℤ, length}
use Rattle.std.proofs.Common.{⊎_elim, eq-or-lt_of_le, arith}
use Rattle.rounding.specs.Signed.{∣◌∣, minus}
use Rattle.sheet.specs.declared.differences.Differences.{Differences}
use Rattle.sheet.specs.declared.settings.Settings.{Settings}
use Rattle.sheet.specs.declared.formula.Formula.{Formula}
use Rattle.sheet.specs.declared.formula.Formula.TheVariants.{CIELAB, CIE94, CMC}
use Rattle.names.specs.declared.Lightness.{Lightness}
use Rattle.names.specs.declared.Lightness.TheVariants as L
use Rattle.names.specs.declared.Chroma.{Chroma}
use Rattle.names.specs.declared.Chroma.TheVariants as C
use Rattle.names.specs.declared.Axis.{Axis}
use Rattle.names.specs.declared.Hue.TheVariants as H
use Rattle.standard.specs.declared.judge.Judgement.{Judgement}
use Rattle.text.specs.Put.{joined}
use Rattle.text.specs.Decimal.{decimal_text}
use Rattle.text.specs.Names.{formula_name}
use Rattle.lines.specs.Lines.{lightness_word, chroma_word, hue_word, unless_withheld, thousandths, figure, signed_figure}
use Rattle.lines.specs.Lines.Longest.{Under, thousandths-length-le, figure-length-le, plain_length_le}
use Rattle.lines.specs.Lines.Longest.{lightness_and_DL_le, chroma_and_DC_le}
use Rattle.lines.specs.Lines.Longest.{white-length-le, hue-length-le, verdict-length}
use Rattle.report.specs.Report.{figure_lines, report_text}
use Rattle.report.specs.Report.Laws.{settings-length, figures-length, figures-length-withheld, words-length}
use Rattle.report.specs.Report.Laws.{report-length}

-- ---- what the sheet can give

-- CIELAB
pub record UnderCielab (d : Differences) : Type 0 where
  pub DE : Under 1000 d.DE
  pub DL : Under 1000 ∣ d.DL ∣
  pub DC : Under 1000 ∣ d.DC ∣
  pub DH : Under 1000 ∣ d.DH ∣

-- CIE94 and CMC: DL and DC are smaller where l and c have one digit more
pub record UnderFactors (l c : ℕ) (d : Differences) : Type 0 where
  pub DE : Under 10000 d.DE
  pub DL : Under 1000 ∣ d.DL ∣
  pub DL_at_ten : l ≡ 10000 → Under 100 ∣ d.DL ∣
  pub DC : Under 10000 ∣ d.DC ∣
  pub DC_at_ten : c ≡ 10000 → Under 100 ∣ d.DC ∣
  pub DH : Under 10000 ∣ d.DH ∣

abbrev pub Figures : Formula → (l c : ℕ) → Differences → Type 0
Figures CIELAB l c d = UnderCielab d
Figures CIE94 l c d = UnderFactors l c d
Figures CMC l c d = UnderFactors l c d

-- the figures, and that the names agree with them: a minus is not lighter and not equal, a bracket is not its name
pub record Printable (j : Judgement) : Type 0 where
  pub l : j.standard.settings.l ≤ 10000
  pub c : j.standard.settings.c ≤ 10000
  pub within :
      Figures j.standard.settings.formula j.standard.settings.l j.standard.settings.c
      j.comparison.differences
  pub lighter : j.lightness ≡ L.Lighter → minus j.comparison.differences.DL ≡ false
  pub equal : j.chroma ≡ C.Equal → minus j.comparison.differences.DC ≡ false
  pub axes : (name bracket : Axis) → j.hue ≡ H.Towards name bracket → name ≡ bracket → ⊥

-- ---- l and c with the lines that they make shorter

-- what l=, DL= and lightness= say
abbrev light_part : (l : ℕ) → Lightness → ℤ → ℕ
light_part l x DL =
    length (decimal_text (thousandths l)) + (length (lightness_word x) + length (decimal_text (signed_figure DL)))

-- what c=, DC= and chroma= say
abbrev chroma_part : (c : ℕ) → Chroma → ℤ → ℕ
chroma_part c x DC =
    length (decimal_text (thousandths c)) + (length (chroma_word x) + length (decimal_text (signed_figure DC)))

one_digit : (m : ℕ) → m < 10000 → length (decimal_text (thousandths m)) ≤ 5
one_digit m h = thousandths-length-le 1 (omega arith) m h

two_digits : (m : ℕ) → m ≤ 10000 → length (decimal_text (thousandths m)) ≤ 6
two_digits m h = thousandths-length-le 2 (omega arith) m (omega arith)

light-part-le :
    (l : ℕ) (x : Lightness) (z : ℤ) → l ≤ 10000 → (x ≡ L.Lighter → minus z ≡ false) → Under 1000 ∣ z ∣ →
    (l ≡ 10000 → Under 100 ∣ z ∣) →
    light_part l x z ≤ 20
light-part-le l x z most up h at-ten =
    ⊎_elim
    (λ (e : l ≡ 10000). omega (arith, two_digits l most, lightness_and_DL_le 2 (omega arith) x z up (at-ten e)))
    (λ (f : l < 10000). omega (arith, one_digit l f, lightness_and_DL_le 3 (omega arith) x z up h))
    (eq-or-lt_of_le most)

chroma-part-le :
    (c : ℕ) (x : Chroma) (z : ℤ) → c ≤ 10000 → (x ≡ C.Equal → minus z ≡ false) → Under 10000 ∣ z ∣ →
    (c ≡ 10000 → Under 100 ∣ z ∣) →
    chroma_part c x z ≤ 19
chroma-part-le c x z most same h at-ten =
    ⊎_elim
    (λ (e : c ≡ 10000). omega (arith, two_digits c most, chroma_and_DC_le 2 (omega arith) x z same (at-ten e)))
    (λ (f : c < 10000). omega (arith, one_digit c f, chroma_and_DC_le 4 (omega arith) x z same h))
    (eq-or-lt_of_le most)

-- ---- the report

-- what the lines say that are never withheld, but for white= and c=, and those that may be, but for hue=
abbrev open_part : Settings → Differences → Lightness → ℕ
open_part s d x =
    length (formula_name s.formula) + light_part s.l x d.DL + length (decimal_text (figure false d.DE))

abbrev chromatic_part : Settings → Differences → Chroma → ℕ
chromatic_part s d x = chroma_part s.c x d.DC + length (decimal_text (signed_figure d.DH))

module _ (j : Judgement) (p : Printable j) where
  abbrev s : Settings
  s = j.standard.settings

  abbrev d : Differences
  d = j.comparison.differences

  record Sizes : Type 0 where
    alone : open_part s d j.lightness ≤ 35
    both : open_part s d j.lightness + chromatic_part s d j.chroma ≤ 63

  sizes_under_cielab : length (formula_name s.formula) ≤ 6 → UnderCielab d → Sizes
  sizes_under_cielab f w =
      let l-line = two_digits s.l p.l in
      let c-line = two_digits s.c p.c in
      let light = lightness_and_DL_le 3 (omega arith) j.lightness d.DL p.lighter w.DL in
      let chroma = chroma_and_DC_le 3 (omega arith) j.chroma d.DC p.equal w.DC in
      let DE-line = plain_length_le 3 (omega arith) false d.DE refl w.DE in
      let DH-line = figure-length-le 3 (omega arith) (minus d.DH) ∣ d.DH ∣ w.DH in
      record { alone = omega arith; both = omega arith }

  sizes_under_factors : length (formula_name s.formula) ≤ 5 → UnderFactors s.l s.c d → Sizes
  sizes_under_factors f w =
      let light = light-part-le s.l j.lightness d.DL p.l p.lighter w.DL w.DL_at_ten in
      let chroma = chroma-part-le s.c j.chroma d.DC p.c p.equal w.DC w.DC_at_ten in
      let DE-line = plain_length_le 4 (omega arith) false d.DE refl w.DE in
      let DH-line = figure-length-le 4 (omega arith) (minus d.DH) ∣ d.DH ∣ w.DH in
      record { alone = omega arith; both = omega arith }

  sizes_of : (f : Formula) → s.formula ≡ f → Figures f s.l s.c d → Sizes
  sizes_of CIELAB e w = sizes_under_cielab (rw e (omega arith)) w
  sizes_of CIE94 e w = sizes_under_factors (rw e (omega arith)) w
  sizes_of CMC e w = sizes_under_factors (rw e (omega arith)) w

  -- what all lines say but white= and verdict=, with those that may be withheld and without
  but_white_le :
      (withheld : Bool) → Sizes →
      length (formula_name s.formula) + length (decimal_text (thousandths s.l)) + length
      (decimal_text (thousandths s.c))
      + length (joined (figure_lines withheld d)) + length (lightness_word j.lightness) + length
      (unless_withheld withheld (chroma_word j.chroma))
      + length (unless_withheld withheld (hue_word j.hue))
      ≤ 96
  but_white_le true z = omega (arith, figures-length-withheld d, two_digits s.c p.c)
  but_white_le false z = omega (arith, figures-length d, hue-length-le j.hue p.axes)

  pub report-length-le : length (report_text j) ≤ 161
  report-length-le =
      omega (
        arith,
        report-length j,
        settings-length s,
        words-length j,
        verdict-length j.verdict,
        white-length-le s.white,
        but_white_le j.withheld (sizes_of s.formula refl p.within),
      )
