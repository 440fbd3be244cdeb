-- Every figure that is handed back is exactly its number of units divided by 2 ^ 20: none is beyond 2 ^ 53 units.
-- Assumes nothing.
use Rattle.std.specs.Prelude.{◌^◌, ℤ, pos, Float, Ok}
use Rattle.std.proofs.Common.{arith}
use Rattle.std.specs.Float.Ieee.Exact.{HasValue}
use Rattle.rounding.specs.Signed.{∣◌∣, minus}
use Rattle.reading.proofs.Theorems.Grid.Laws.{value_exact}
use Rattle.colour.specs.Conversion.{at_places}
use Rattle.colour.specs.Conversion.Ranges.{OnGrid}
use Rattle.colour.specs.declared.conversion.GridColour.{GridColour}
use Rattle.sheet.specs.Ranges.{ComparisonInRange}
use Rattle.sheet.specs.Sheet.{semi_axes}
use Rattle.sheet.proofs.Theorems.Sheet.Bounds.{semi_axes_of_grid, semi_axes_C_lt, comparison_in_range}
use Rattle.standard.specs.declared.accept.Standard.{Standard}
use Rattle.standard.specs.declared.judge.Judgement.{Judgement}
use Rattle.standard.specs.declared.figures.ReferenceFigures.{ReferenceFigures}
use Rattle.standard.specs.declared.figures.SpecimenFigures.{SpecimenFigures}
use Rattle.standard.specs.Acceptance.{Valid}
use Rattle.standard.specs.Judgement.{judgement_of, Specimen}
use Rattle.standard.proofs.Theorems.Judgement.Laws.{in_range}
use Rattle.standard.specs.Figures.{reference_figures, reference_answer, specimen_figures, specimen_answer}

-- x is exactly z / 2 ^ 20
abbrev pub Exact : (z : ℤ) (x : Float) → Type 0
Exact z x = HasValue x (minus z) ∣ z ∣ (2 ^ 20)

-- ---- a load

pub record ReferenceExact (s : Standard) (F : ReferenceFigures) : Type 0 where
  pub L : Exact s.colour.L.0 F.L
  pub a : Exact s.colour.a.0 F.a
  pub b : Exact s.colour.b.0 F.b
  pub C : Exact (pos (semi_axes 20 s.settings.formula (at_places 20 s.colour)).C) F.C
  pub SL : Exact (pos (semi_axes 20 s.settings.formula (at_places 20 s.colour)).SL) F.SL
  pub SC : Exact (pos (semi_axes 20 s.settings.formula (at_places 20 s.colour)).SC) F.SC
  pub SH : Exact (pos (semi_axes 20 s.settings.formula (at_places 20 s.colour)).SH) F.SH

pub reference-exact : (s : Standard) → Valid s → ReferenceExact s (reference_answer (Ok s)).figures
unfolding reference_answer reference_figures
reference-exact s v =
    let R = s.colour in
    let g = v.colour in
    let S = semi_axes_of_grid s.settings.formula g in
    record {
      L = value_exact R.L.0 (omega (arith, g.L));
      a = value_exact R.a.0 (omega (arith, g.a));
      b = value_exact R.b.0 (omega (arith, g.b));
      C = value_exact (pos _) (omega (arith, semi_axes_C_lt s.settings.formula g));
      SL = value_exact (pos _) (omega (arith, S.light.high));
      SC = value_exact (pos _) (omega (arith, S.chroma.high));
      SH = value_exact (pos _) (omega (arith, S.hue.high));
    }

-- ---- a judgement or a ticket

pub record SpecimenExact (j : Judgement) (F : SpecimenFigures) : Type 0 where
  pub L : Exact j.test.L.0 F.L
  pub a : Exact j.test.a.0 F.a
  pub b : Exact j.test.b.0 F.b
  pub C : Exact (pos j.comparison.C) F.C
  pub DL : Exact j.comparison.differences.DL F.DL
  pub DC : Exact j.comparison.differences.DC F.DC
  pub DH : Exact j.comparison.differences.DH F.DH
  pub DE : Exact (pos j.comparison.differences.DE) F.DE

in_range_exact :
    (j : Judgement) → OnGrid j.test → ComparisonInRange j.comparison →
    SpecimenExact j (specimen_answer (Ok j)).figures
unfolding specimen_answer specimen_figures
in_range_exact j g h =
    record {
      L = value_exact j.test.L.0 (omega (arith, g.L));
      a = value_exact j.test.a.0 (omega (arith, g.a));
      b = value_exact j.test.b.0 (omega (arith, g.b));
      C = value_exact (pos j.comparison.C) (omega (arith, h.C));
      DL = value_exact j.comparison.differences.DL (omega (arith, h.components.L));
      DC = value_exact j.comparison.differences.DC (omega (arith, h.components.C));
      DH = value_exact j.comparison.differences.DH (omega (arith, h.components.H));
      DE = value_exact (pos j.comparison.differences.DE) (omega (arith, h.DE));
    }

pub specimen-exact :
    (s : Standard) (T : GridColour) → Specimen s T →
    SpecimenExact (judgement_of s T) (specimen_answer (Ok (judgement_of s T))).figures
unfolding judgement_of
specimen-exact s T h =
    in_range_exact (judgement_of s T) h.test (comparison_in_range s.settings.formula (in_range h))
