-- docs/SCOPE.md 7.3, 10.4: exactly when a judgement withholds, and that no figure, name or verdict handed back goes by
-- it. Beside it the judgement of the rule before version 1.3, by which the reference alone decided. Assumes nothing.
use Rattle.std.specs.Prelude.{◌≡◌, refl, Bool, true, ◌↔◌, Ok}
use Rattle.std.proofs.Common.{ap}
use Rattle.colour.specs.declared.conversion.GridColour.{GridColour}
use Rattle.names.proofs.Theorems.Names.Withheld.{Withholds, withheld_exactly, withheld_by_reference, TestAlone, withheld_as_before}
use Rattle.standard.specs.declared.accept.Standard.{Standard}
use Rattle.standard.specs.declared.judge.Judgement.{Judgement}
use Rattle.standard.specs.Judgement.{judgement_of}
use Rattle.standard.specs.Figures.{specimen_answer}

-- WITHHELD EXACTLY WHEN THE FORMULA IS CMC AND ONE OF THE TWO COLOURS IS ACHROMATIC, OR BOTH ARE
pub judgement-withheld :
    (s : Standard) (T : GridColour) →
    ((judgement_of s T).withheld ≡ true) ↔ Withholds s.settings.formula s.colour T
unfolding judgement_of
judgement-withheld s T = withheld_exactly s.settings.formula s.colour T

-- the judgement with this withheld, and all else as it is
abbrev pub withholding : (withheld : Bool) → Judgement → Judgement
withholding withheld j = record {
  standard = j.standard;
  test = j.test;
  comparison = j.comparison;
  lightness = j.lightness;
  chroma = j.chroma;
  hue = j.hue;
  verdict = j.verdict;
  withheld = withheld;
}

-- NO FIGURE, NAME OR VERDICT THAT IS HANDED BACK GOES BY IT
pub handed_back_the_same :
    (withheld : Bool) (j : Judgement) → specimen_answer (Ok (withholding withheld j)) ≡ specimen_answer (Ok j)
unfolding specimen_answer
handed_back_the_same withheld j = refl

-- by the rule before version 1.3
abbrev pub judgement_by_reference : Standard → (T : GridColour) → Judgement
judgement_by_reference s T = withholding (withheld_by_reference s.settings.formula s.colour) (judgement_of s T)

-- AS BEFORE, BUT WHERE UNDER CMC THE TEST SPECIMEN ALONE IS ACHROMATIC
pub judgement_as_before :
    (s : Standard) (T : GridColour) → ¬ TestAlone s.settings.formula s.colour T →
    judgement_of s T ≡ judgement_by_reference s T
unfolding judgement_of
judgement_as_before s T h =
    ap (λ (w : Bool). withholding w (judgement_of s T)) (withheld_as_before s.settings.formula s.colour T h)
