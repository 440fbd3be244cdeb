-- docs/SCOPE.md 1.3, 8: what each call on lent slices answers, and what it leaves in the slice that it may write.
-- Assumes nothing.
use Rattle.std.specs.Prelude.{◌≡◌, Bool, false, not, cond, List, ◌∷◌, ℕ, eqb, length, Ok, Err}
use Rattle.std.proofs.Common.{sym, ◌∙◌}
use Rattle.colour.specs.Refusal.{refusal_of}
use Rattle.colour.specs.Placed.{Reading}
use Rattle.text.specs.Put.{put_at}
use Rattle.ticket.specs.Ticket.{ticket_of}
use Rattle.report.specs.Report.{report_text}
use Rattle.report.specs.Write.{has_room}
use Rattle.standard.specs.Refusals.{Fault, fault, first, refusal, at_room}
use Rattle.standard.specs.Acceptance.{settings_of}
use Rattle.standard.specs.Judgement.{Outcome}
use Rattle.station.specs.Record.{decode}
use Rattle.station.specs.Runs.{left}
use Rattle.calls.specs.Outcome.{loaded, load_faults, judged_by, judge_faults, ticket_outcome, ticket_faults}
pub mod Numbers

-- a call's number, and the bytes of the slice afterwards
pub record Answer : Type 0 where
  pub number : ℕ
  pub bytes : List ℕ

-- the number and the bytes are those of the answer
pub record Gives (a : Answer) (n : ℕ) (xs : List ℕ) : Type 0 where
  pub number : n ≡ a.number
  pub bytes : xs ≡ a.bytes

-- ANY TWO OUTCOMES THAT A CONTRACT ADMITS ARE EQUAL: the number, and the bytes of the lent slice
abbrev pub AdmitsOne : Answer → Type 0
AdmitsOne a = (n m : ℕ) (xs ys : List ℕ) → Gives a n xs → Gives a m ys → (n ≡ m) × (xs ≡ ys)

pub gives_one : (a : Answer) → AdmitsOne a
gives_one a n m xs ys p q = (p.number ∙ sym q.number, p.bytes ∙ sym q.bytes)

-- on 0 the slice is what the call writes; a refused call leaves it
abbrev pub writing : (number : ℕ) (written before : List ℕ) → Answer
writing number written before = record { number = number; bytes = cond (eqb number 0) written before }

-- ---- a load: with 10 for a slice of another length

abbrev pub length_fault : List ℕ → Fault
length_fault xs = fault at_room 10 (not (eqb (length xs) 20))

unfoldable pub load_call : List ℕ → (formula white l c tolerance : ℕ) → Reading → Answer
load_call xs formula white l c tolerance r =
    writing (refusal (length_fault xs ∷ load_faults formula white l c tolerance r))
    (left xs (loaded (settings_of formula white l c tolerance) r)) xs

-- ---- a report: with 10 for a room that is shorter than it from the column on

-- where nothing is judged there is no report to find room for
abbrev pub room_fault : Outcome → (room : List ℕ) (column : ℕ) → Fault
room_fault o room column = fault at_room 10 (short o)
  where
    short : Outcome → Bool
    short (Err n) = false
    short (Ok j) = not (has_room room column j)

-- the room with the report in it from the column on, every other byte as it was
abbrev pub with_report : Outcome → (room : List ℕ) (column : ℕ) → List ℕ
with_report (Err n) room column = room
with_report (Ok j) room column = put_at room column (report_text j)

unfoldable pub judge_call : List ℕ → Reading → (room : List ℕ) (column : ℕ) → Answer
judge_call xs r room column =
    let o : Outcome = judged_by (decode xs) r in
    writing (refusal (room_fault o room column ∷ judge_faults (decode xs) r)) (with_report o room column) room

unfoldable pub ticket_call : (text room : List ℕ) (column : ℕ) → Answer
ticket_call text room column =
    let o : Outcome = ticket_outcome (ticket_of text) in
    writing (refusal (room_fault o room column ∷ ticket_faults (ticket_of text))) (with_report o room column) room

-- both by what they come to
unfoldable pub reported : Outcome → (room : List ℕ) (column : ℕ) → Answer
reported o room column = writing (first (refusal_of o) (room_fault o room column).number) (with_report o room column) room
