-- docs/SCOPE.md 6, 7: what a judgement of a test specimen by a standard comes to. Assumes nothing.
use Rattle.std.specs.Prelude.{Result, Ok, Err}
use Rattle.colour.specs.Conversion.Ranges.{OnGrid}
use Rattle.colour.specs.declared.conversion.GridColour.{GridColour}
use Rattle.colour.specs.Placed.{Placed}
use Rattle.sheet.specs.Sheet.{comparison, tolerance_on, verdict_on}
use Rattle.sheet.specs.declared.comparison.Comparison.{Comparison}
use Rattle.sheet.specs.declared.settings.Settings.{Settings}
use Rattle.names.specs.Names.{lightness_name, chroma_name, hue_name, withheld_by}
use Rattle.standard.specs.declared.accept.Standard.{Standard}
use Rattle.standard.specs.declared.judge.Judgement.{Judgement}
use Rattle.colour.specs.declared.refusal.Refusal.{Refusal}
use Rattle.standard.specs.Acceptance.{Valid, PlacedOn}

-- the sheet, the names and the verdict, all from the standard itself
unfoldable pub judgement_of : Standard → (T : GridColour) → Judgement
judgement_of s T =
    let by : Settings = s.settings in
    let found : Comparison = comparison 20 by.formula by.l by.c s.colour T in
    record {
      standard = s;
      test = T;
      comparison = found;
      lightness = lightness_name found.shift.L;
      chroma = chroma_name found.shift.C;
      hue = hue_name s.colour T;
      verdict = verdict_on 20 (tolerance_on 20 by.formula by.tolerance) found.scaled;
      withheld = withheld_by by.formula s.colour T;
    }

-- what a test specimen comes to
abbrev pub Outcome : Type 0
Outcome = Result Judgement Refusal

-- by the test specimen's place, or its refusal
unfoldable pub outcome : Standard → (test : Placed) → Outcome
outcome s (Ok T) = Ok (judgement_of s T)
outcome s (Err e) = Err e

-- ---- what is asked: a standard in its ranges, and a test specimen on the grid

pub record Specimen (s : Standard) (T : GridColour) : Type 0 where
  pub standard : Valid s
  pub test : OnGrid T

pub record Judgeable (s : Standard) (p : Placed) : Type 0 where
  pub standard : Valid s
  pub test : PlacedOn p
