-- What callers use of a judgement: where it comes from, its number, and that its verdict is that of SCOPE 6.4 on its
-- DE. Assumes nothing.
use Rattle.std.specs.Prelude.{◌≡◌, refl, ℕ, Ok, Err}
use Rattle.std.proofs.Common.{sym, ap, ◌∙◌, arith}
use Rattle.colour.specs.Refusal.{refusal_of}
use Rattle.colour.specs.declared.conversion.GridColour.{GridColour}
use Rattle.colour.specs.Placed.{Placed}
use Rattle.sheet.specs.Ranges.{InRange}
use Rattle.sheet.specs.Sheet.{sheet, comparison, verdict}
use Rattle.sheet.proofs.Theorems.Sheet.Laws.{one_scale}
use Rattle.standard.specs.declared.accept.Standard.{Standard}
use Rattle.standard.specs.declared.judge.Judgement.{Judgement}
use Rattle.standard.specs.Judgement.{judgement_of, outcome, Specimen}

-- what the sheet asks
pub in_range : {s : Standard} {T : GridColour} → Specimen s T → InRange s.settings.l s.settings.c s.colour T
in_range h =
    record { lightness = h.standard.l; chroma = h.standard.c; reference = h.standard.colour; specimen = h.test }

-- j is the judgement by s of a test specimen that is placed
pub record Says (s : Standard) (p : Placed) (j : Judgement) : Type 0 where
  pub standard : s ≡ j.standard
  pub placed : p ≡ Ok j.test
  pub is : j ≡ judgement_of j.standard j.test

pub judged-says : (s : Standard) (p : Placed) {j : Judgement} → outcome s p ≡ Ok j → Says s p j
unfolding outcome judgement_of
judged-says s (Ok T) {j} e =
    let same : judgement_of s T ≡ j = cc in
    record {
      standard = ap (λ (k : Judgement). k.standard) same;
      placed = ap (λ (k : Judgement). Ok k.test) same;
      is = sym same ∙ ap (λ (k : Judgement). judgement_of k.standard k.test) same;
    }
judged-says s (Err n) e = let no : ◌≡◌ {A = ℕ} 0 1 = cc in absurd (omega arith)

-- its number is the test specimen's
pub outcome-number : (s : Standard) (p : Placed) → refusal_of (outcome s p) ≡ refusal_of p
unfolding outcome
outcome-number s (Ok T) = refl
outcome-number s (Err n) = refl

-- THE VERDICT IS THE RULE'S ON THE DE OF THE SHEET (SCOPE 6.4): tolerance and DE are of the standard's own formula, and
-- so on one scale
pub verdict_is :
    (s : Standard) (T : GridColour) →
    (judgement_of s T).verdict
    ≡ verdict 20 s.settings.tolerance
    (sheet 20 s.settings.formula s.settings.l s.settings.c s.colour T).DE
unfolding judgement_of comparison
verdict_is s T = one_scale 20 s.settings.formula s.settings.tolerance _
