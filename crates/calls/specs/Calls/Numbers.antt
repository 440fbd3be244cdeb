-- docs/SCOPE.md 8.3: which numbers each call can give, whatever it is given. A ticket gives neither 5, since a decimal
-- is always finite, nor 1 or 2, since it can name only what there is. Assumes nothing.
use Rattle.std.specs.Prelude.{◌≡◌, refl, Bool, true, false, not, ◌||◌, List, [], ◌∷◌, ℕ, eqb, length, Ok, Err}
use Rattle.colour.specs.Placed.{Reading}
use Rattle.ticket.specs.Ticket.{ticket_of}
use Rattle.report.specs.Write.{has_room}
use Rattle.standard.proofs.Theorems.Refusals.Laws.{more, refusal_keeps}
use Rattle.standard.specs.Judgement.{Outcome}
use Rattle.station.specs.Record.{decode}
use Rattle.calls.specs.Outcome.{judged_by, ticket_outcome}
use Rattle.calls.specs.Outcome.Each.{there_keeps, load_each, judge_each, ticket_each}
use Rattle.calls.specs.Calls.{load_call, room_fault, judge_call, ticket_call}

abbrev pub is_one_of : ℕ → List ℕ → Bool
is_one_of n [] = false
is_one_of n (m ∷ ms) = eqb n m || is_one_of n ms

abbrev pub OneOf : ℕ → List ℕ → Type 0
OneOf n ns = is_one_of n ns ≡ true

abbrev pub OfLoad : ℕ → Type 0
OfLoad n = OneOf n (0 ∷ 1 ∷ 2 ∷ 3 ∷ 4 ∷ 5 ∷ 6 ∷ 8 ∷ 10 ∷ [])

abbrev pub OfJudgement : ℕ → Type 0
OfJudgement n = OneOf n (0 ∷ 5 ∷ 6 ∷ 8 ∷ 9 ∷ 10 ∷ [])

abbrev pub OfTicket : ℕ → Type 0
OfTicket n = OneOf n (0 ∷ 3 ∷ 4 ∷ 6 ∷ 7 ∷ 8 ∷ 10 ∷ [])

room_keeps :
    (Q : ℕ → Type 0) → Q 0 → Q 10 → (o : Outcome) (room : List ℕ) (column : ℕ) → Q (room_fault o room column).number
room_keeps Q zero ten (Err n) room column = zero
room_keeps Q zero ten (Ok j) room column = there_keeps Q zero (not (has_room room column j)) ten

-- a load gives 0 to 6, 8 or 10
pub load_never_7_or_9 :
    (xs : List ℕ) (formula white l c tolerance : ℕ) (r : Reading) →
    OfLoad (load_call xs formula white l c tolerance r).number
unfolding load_call
load_never_7_or_9 xs formula white l c tolerance r =
    refusal_keeps OfLoad refl
    (more (there_keeps OfLoad refl (not (eqb (length xs) 20)) refl)
    (load_each OfLoad refl refl refl refl refl refl refl refl formula white l c tolerance r))

-- a judgement gives 0, 5, 6, 8, 9 or 10
pub judge_never_1_to_4_or_7 :
    (xs : List ℕ) (r : Reading) (room : List ℕ) (column : ℕ) → OfJudgement (judge_call xs r room column).number
unfolding judge_call
judge_never_1_to_4_or_7 xs r room column =
    refusal_keeps OfJudgement refl
    (more (room_keeps OfJudgement refl refl (judged_by (decode xs) r) room column)
    (judge_each OfJudgement refl refl refl refl refl (decode xs) r))

-- a ticket gives 0, 3, 4, 6, 7, 8 or 10
pub ticket_never_1_2_5_or_9 : (text room : List ℕ) (column : ℕ) → OfTicket (ticket_call text room column).number
unfolding ticket_call
ticket_never_1_2_5_or_9 text room column =
    refusal_keeps OfTicket refl
    (more (room_keeps OfTicket refl refl (ticket_outcome (ticket_of text)) room column)
    (ticket_each OfTicket refl refl refl refl refl refl (ticket_of text)))
