-- docs/SCOPE.md 3.5, 8.4: what a load and a judgement hand back as floats. Assumes nothing.
use Rattle.std.specs.Prelude.{false, ℕ, pos, Float, Ok, Err, Some, None}
use Rattle.std.specs.Float.{fin}
use Rattle.reading.specs.Grid.{value_of}
use Rattle.colour.specs.Conversion.{at_places}
use Rattle.colour.specs.Refusal.{number_of_refusal}
use Rattle.colour.specs.declared.conversion.GridColour.{GridColour}
use Rattle.sheet.specs.Sheet.{semi_axes}
use Rattle.sheet.specs.declared.differences.Differences.{Differences}
use Rattle.sheet.specs.declared.semi_axes.SemiAxes.{SemiAxes}
use Rattle.standard.specs.declared.accept.Standard.{Standard}
use Rattle.standard.specs.Acceptance.{Acceptance}
use Rattle.standard.specs.Judgement.{Outcome}
use Rattle.standard.specs.declared.figures.ReferenceFigures.{ReferenceFigures}
use Rattle.standard.specs.declared.figures.ReferenceAnswer.{ReferenceAnswer}
use Rattle.standard.specs.declared.figures.SpecimenFigures.{SpecimenFigures}
use Rattle.standard.specs.declared.figures.SpecimenAnswer.{SpecimenAnswer}
use Rattle.standard.specs.declared.figures.Names.{Names}

-- 0.0, which is every figure of a refused call
abbrev pub zero : Float
zero = fin false 0 (pos 0)

abbrev pub no_reference : ReferenceFigures
no_reference = record { L = zero; a = zero; b = zero; C = zero; SL = zero; SC = zero; SH = zero }

abbrev pub no_specimen : SpecimenFigures
no_specimen = record { L = zero; a = zero; b = zero; C = zero; DL = zero; DC = zero; DH = zero; DE = zero }

-- ---- a load: the reference's L*, a*, b*, C, SL, SC and SH

unfoldable pub reference_figures : Standard → ReferenceFigures
reference_figures s =
    let R : GridColour = s.colour in
    let S : SemiAxes = semi_axes 20 s.settings.formula (at_places 20 R) in
    record {
      L = value_of R.L.0;
      a = value_of R.a.0;
      b = value_of R.b.0;
      C = value_of (pos S.C);
      SL = value_of (pos S.SL);
      SC = value_of (pos S.SC);
      SH = value_of (pos S.SH);
    }

unfoldable pub reference_answer : Acceptance → ReferenceAnswer
reference_answer (Err e) = record { number = number_of_refusal e; figures = no_reference }
reference_answer (Ok s) = record { number = 0; figures = reference_figures s }

-- ---- a judgement or a ticket: the test specimen's L*, a*, b* and C, then DL, DC, DH, DE

unfoldable pub specimen_figures : (T : GridColour) (C : ℕ) → Differences → SpecimenFigures
specimen_figures T C d = record {
  L = value_of T.L.0;
  a = value_of T.a.0;
  b = value_of T.b.0;
  C = value_of (pos C);
  DL = value_of d.DL;
  DC = value_of d.DC;
  DH = value_of d.DH;
  DE = value_of (pos d.DE);
}

unfoldable pub specimen_answer : Outcome → SpecimenAnswer
specimen_answer (Err e) = record { number = number_of_refusal e; figures = no_specimen; names = None }
specimen_answer (Ok j) =
    let found : SpecimenFigures = specimen_figures j.test j.comparison.C j.comparison.differences in
    let names : Names = record { lightness = j.lightness; chroma = j.chroma; hue = j.hue; verdict = j.verdict } in
    record { number = 0; figures = found; names = Some names }
