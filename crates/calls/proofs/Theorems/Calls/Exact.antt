-- docs/SCOPE.md 3.5: every figure that a call hands back is exactly its number of units divided by 2 ^ 20. Assumes
-- nothing.
use Rattle.std.specs.Prelude.{◌≡◌, List, ℕ, Result, Ok}
use Rattle.std.proofs.Common.{subst, sym}
use Rattle.colour.specs.Placed.{Reading}
use Rattle.ticket.specs.Ticket.{Parsed}
use Rattle.standard.specs.Judgement.{judgement_of, Specimen, Outcome}
use Rattle.standard.specs.Figures.{reference_answer, specimen_answer}
use Rattle.standard.proofs.Theorems.Figures.Exact.{ReferenceExact, reference-exact, SpecimenExact, specimen-exact}
use Rattle.standard.specs.declared.accept.Standard.{Standard}
use Rattle.sheet.specs.declared.settings.Settings.{Settings}
use Rattle.colour.specs.declared.refusal.Refusal.{Refusal}
use Rattle.standard.specs.declared.judge.Judgement.{Judgement}
use Rattle.station.specs.Record.{decode}
use Rattle.calls.specs.Outcome.{loaded, judged_by, ticket_outcome}
use Rattle.calls.proofs.Theorems.Outcome.Load.{loaded-valid}
use Rattle.calls.proofs.Theorems.Outcome.Judge.{judged-said}
use Rattle.calls.proofs.Theorems.Outcome.Ticket.{ticket-said}
use Rattle.calls.specs.Line.{ticket_answer}

pub load-exact :
    (q : Result Settings Refusal) (r : Reading) {s : Standard} → loaded q r ≡ Ok s →
    ReferenceExact s (reference_answer (loaded q r)).figures
load-exact q r {s} e = rw e (reference-exact s (loaded-valid q r s e))

said-exact :
    {o : Outcome} (j : Judgement) → o ≡ Ok j → j ≡ judgement_of j.standard j.test →
    Specimen j.standard j.test → SpecimenExact j (specimen_answer o).figures
said-exact j e is asked =
    rw e
    (subst (λ (k : Judgement). SpecimenExact k (specimen_answer (Ok k)).figures) (sym is)
    (specimen-exact j.standard j.test asked))

pub judge-exact :
    (xs : List ℕ) (r : Reading) {j : Judgement} → judged_by (decode xs) r ≡ Ok j →
    SpecimenExact j (specimen_answer (judged_by (decode xs) r)).figures
judge-exact xs r {j} e = let said = judged-said xs r e in said-exact j e said.is said.asked

pub ticket-exact :
    (p : Parsed) {j : Judgement} → ticket_outcome p ≡ Ok j → SpecimenExact j (ticket_answer p).answer.figures
unfolding ticket_answer
ticket-exact p {j} e = let said = ticket-said p e in said-exact j e said.is said.asked
