-- What is judged is the sheet's, in the words of `specs/Demand2.antt`: `JudgedBy` of a judgement, `JudgedIn` of a ticket.
-- Assumes nothing.
use Rattle.std.specs.Prelude.{◌≡◌, List, ℕ, Ok}
use Rattle.colour.specs.Placed.{Reading}
use Rattle.ticket.specs.Ticket.{ticket_of}
use Rattle.ticket.proofs.Theorems.Ticket.Grammar.Right.{right_exactly}
use Rattle.standard.proofs.Theorems.Acceptance.Laws.{accepted_made}
use Rattle.standard.specs.declared.judge.Judgement.{Judgement}
use Rattle.station.specs.Record.{decode}
use Rattle.calls.specs.Outcome.{judged_by, ticket_outcome}
use Rattle.calls.proofs.Theorems.Outcome.Judge.{judged-said}
use Rattle.calls.proofs.Theorems.Outcome.Ticket.{ticket-said}
use Rattle.calls.specs.Line.{ticket_answer}
use Rattle.calls.proofs.Theorems.Calls.Exact.{judge-exact, ticket-exact}
use Rattle.demands.specs.Demand2.{JudgedBy, JudgedIn, of_the_sheet, handed_back}

-- ---- a judgement

pub judged_by_the_sheet :
    (xs : List ℕ) (r : Reading) {j : Judgement} → judged_by (decode xs) r ≡ Ok j → JudgedBy xs r j
judged_by_the_sheet xs r e =
    let said = judged-said xs r e in
    record {
      held = said.held;
      test = said.read;
      sheet = of_the_sheet said.is;
      handed = handed_back e (judge-exact xs r e);
    }

-- ---- a ticket

pub ticket_by_the_sheet : (text : List ℕ) {j : Judgement} → ticket_outcome (ticket_of text) ≡ Ok j → JudgedIn text j
unfolding ticket_answer
ticket_by_the_sheet text e =
    let said = ticket-said (ticket_of text) e in
    let from = accepted_made said.ticket.settings _ said.accepted in
    record {
      ticket = said.ticket;
      consists = (right_exactly text said.ticket).0 said.right;
      settings = from.settings;
      reference = from.placed;
      test = said.read;
      sheet = of_the_sheet said.is;
      handed = handed_back e (ticket-exact (ticket_of text) e);
    }
