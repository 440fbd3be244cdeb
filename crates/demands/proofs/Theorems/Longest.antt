-- What follows from `specs/Longest.antt`: no call's report is longer, and 161 bytes from the column on are enough room
-- for every call that writes one. Assumes nothing.
use Rattle.std.specs.Prelude.{◌≡◌, refl, List, ◌∷◌, ℕ, ◌+◌, ◌≤◌, ◌<◌, length, Ok, Err}
use Rattle.std.proofs.Common.{sym, subst, arith, le-leb}
use Rattle.colour.specs.Conversion.{at_places}
use Rattle.colour.specs.declared.conversion.GridColour.{GridColour}
use Rattle.colour.specs.Placed.{Reading}
use Rattle.sheet.specs.Sheet.{shift, differences, sheet, comparison}
use Rattle.sheet.specs.declared.shift.Shift.{Shift}
use Rattle.ticket.specs.Ticket.{ticket_of, Parsed}
use Rattle.report.specs.Report.{report_text}
use Rattle.report.specs.Report.Longest.{Printable, report-length-le}
use Rattle.report.specs.Write.{has_room}
use Rattle.standard.specs.Refusals.{Fault, refusal}
use Rattle.standard.proofs.Theorems.Refusals.Laws.{Each, more, refusal_keeps}
use Rattle.standard.specs.Judgement.{judgement_of, Specimen, Outcome}
use Rattle.standard.proofs.Theorems.Judgement.Laws.{in_range}
use Rattle.standard.specs.declared.accept.Standard.{Standard}
use Rattle.standard.specs.declared.judge.Judgement.{Judgement}
use Rattle.station.specs.Record.{decode}
use Rattle.calls.specs.Outcome.{judged_by, ticket_outcome}
use Rattle.calls.specs.Outcome.Each.{judge_each, ticket_each}
use Rattle.calls.proofs.Theorems.Outcome.Judge.{judged-said}
use Rattle.calls.proofs.Theorems.Outcome.Ticket.{ticket-said}
use Rattle.calls.specs.Calls.{Answer, room_fault, judge_call, ticket_call}
use Rattle.demands.specs.Longest.Figures.{sheet-figures}
use Rattle.demands.specs.Longest.Names.{not_minus_component, not_minus_of_lighter, not_minus_of_equal, bracket-differs}
use Rattle.demands.specs.Longest.{no_longer_report, Short, EnoughRoom}
pub mod Printed

said-short :
    {j : Judgement} → j ≡ judgement_of j.standard j.test → Specimen j.standard j.test →
    length (report_text j) ≤ 161
said-short is asked = subst (λ (k : Judgement). length (report_text k) ≤ 161) (sym is) (no_longer_report _ _ asked)

pub judged-short : (xs : List ℕ) (r : Reading) → Short (judged_by (decode xs) r)
judged-short xs r j e = let said = judged-said xs r e in said-short said.is said.asked

pub ticket-short : (p : Parsed) → Short (ticket_outcome p)
ticket-short p j e = let said = ticket-said p e in said-short said.is said.asked

-- ---- 161 bytes from the column on are enough: with so many, no call is refused for want of room

-- the room has no fault, and the numbers of all others are below 10
abbrev Below10 : ℕ → Type 0
Below10 n = n < 10

room_below_10 :
    (o : Outcome) → Short o → (room : List ℕ) (column : ℕ) → column + 161 ≤ length room →
    Below10 (room_fault o room column).number
unfolding has_room
room_below_10 (Err n) short room column some = omega arith
room_below_10 (Ok j) short room column some =
    rw (le-leb (column + length (report_text j)) (length room) (omega (arith, short j refl))) (omega arith)

refusal_below_10 :
    (fs : List Fault) → Each Below10 fs → (o : Outcome) → Short o → (room : List ℕ) (column : ℕ) →
    column + 161 ≤ length room →
    refusal (room_fault o room column ∷ fs) < 10
refusal_below_10 fs each o short room column some =
    refusal_keeps Below10 (omega arith) (more (room_below_10 o short room column some) each)

pub enough-room : (xs : List ℕ) (r : Reading) → EnoughRoom (judge_call xs r)
unfolding judge_call
enough-room xs r room column some ten =
    let each = judge_each Below10 (omega arith) (omega arith) (omega arith) (omega arith) (omega arith) (decode xs) r in
    omega (arith, refusal_below_10 _ each (judged_by (decode xs) r) (judged-short xs r) room column some)

pub enough_room_for_a_ticket : (text : List ℕ) → EnoughRoom (ticket_call text)
unfolding ticket_call
enough_room_for_a_ticket text room column some ten =
    let each =
    ticket_each Below10 (omega arith) (omega arith) (omega arith) (omega arith) (omega arith) (omega arith)
    (ticket_of text) in
    omega (
      arith,
      refusal_below_10 _ each (ticket_outcome (ticket_of text)) (ticket-short (ticket_of text)) room column
          some,
    )
