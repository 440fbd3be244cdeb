-- docs/SCOPE.md 9.4: A TICKET DOES BOTH FROM A FRESH STATION. Whatever load and judgement say the same as a ticket, the
-- ticket comes to what the load into a fresh station is refused with, or else to what the judgement by that station
-- comes to; by value, and over slices. `Ticket/Said.antt` has which load and judgement say the same. Assumes nothing.
use Rattle.std.specs.Prelude.{◌≡◌, cond, List, ℕ, eqb, Ok, Err, Option, Some}
use Rattle.std.proofs.Math.Path.{refl, sym, ap}
use Rattle.std.proofs.Common.{◌∙◌, ne_eqb}
use Rattle.colour.specs.Refusal.{number_of_refusal}
use Rattle.colour.specs.Placed.{place, place_written, Reading}
use Rattle.colour.specs.Placed.Same.{PlacedAlike}
use Rattle.colour.specs.declared.white.White.{White}
use Rattle.ticket.specs.Ticket.{ticket_of, Parsed}
use Rattle.ticket.specs.declared.lines.Ticket.{Ticket}
use Rattle.standard.specs.Acceptance.{settings_of, acceptance, Acceptance}
use Rattle.standard.specs.Judgement.{outcome, Outcome}
use Rattle.station.specs.Record.{decode, zeros}
use Rattle.station.specs.Record.Back.{length-zeros, decode-encode}
use Rattle.standard.specs.declared.accept.Standard.{Standard}
use Rattle.calls.specs.Outcome.{loaded, judged_by, judged_after, ticket_outcome}
use Rattle.calls.proofs.Theorems.Outcome.Load.{load_some, loaded-valid, accepted-load}
use Rattle.calls.specs.Calls.{Answer, Gives, load_call, judge_call, ticket_call, reported}
use Rattle.calls.proofs.Theorems.Calls.Laws.{load-call-refused, reported-refused, judge_call_is, ticket_call_is}
use Rattle.calls.proofs.Theorems.Calls.Every.{load_gives}
pub mod Said

-- ---- what it is to do both

-- a load of these numbers and reading r, and a judgement of reading q, say the same as the ticket: its settings, and
-- its reference and its test specimen, each placed alike in its white
pub record BothSay (t : Ticket) (formula white l c tolerance : ℕ) (r q : Reading) : Type 0 where
  pub settings : settings_of formula white l c tolerance ≡ Ok t.settings
  pub reference : PlacedAlike t.settings.white r t.reference
  pub test : PlacedAlike t.settings.white q t.test

-- the load's refusal, or else what the judgement comes to
abbrev pub once_loaded : (load : Acceptance) (judgement : Outcome) → Outcome
once_loaded (Err n) judgement = Err n
once_loaded (Ok s) judgement = judgement

-- over slices: the load's number and the room as it was, or else, with 0, what the judgement answers and leaves
abbrev pub once_stored : (load judgement : Answer) (room : List ℕ) → Answer
once_stored load judgement room =
    cond (eqb load.number 0) judgement (record { number = load.number; bytes = room })

module _
    {t : Ticket} {formula white l c tolerance : ℕ} {r q : Reading} (same : BothSay t formula white l c tolerance r q)
  where
    abbrev load : Acceptance
    load = loaded (settings_of formula white l c tolerance) r

    -- into a fresh station
    abbrev load_answer : Answer
    load_answer = load_call zeros formula white l c tolerance r

    -- by what that leaves
    abbrev judged : Outcome
    judged = judged_by (decode load_answer.bytes) q

    same_load : load ≡ acceptance t.settings (place_written t.settings.white t.reference)
    unfolding loaded
    same_load = rw (same.settings, same.reference)

    same_judgement :
        (a : Acceptance) → load ≡ a →
        judged_after a (place_written t.settings.white t.test) ≡ once_loaded a judged
    unfolding judged_by
    same_judgement (Err n) e = refl
    same_judgement (Ok s) e =
        let of = accepted-load formula white l c tolerance r e in
        let settings : Ok t.settings ≡ Ok s.settings = sym same.settings ∙ of.settings in
        let white_is : t.settings.white ≡ s.settings.white = cc in
        let stored = (load_gives zeros formula white l c tolerance r length-zeros e).bytes in
        let held : decode load_answer.bytes ≡ Some s =
        ap decode (sym stored) ∙ decode-encode s (loaded-valid _ r s e) in
        ap (outcome s) (sym same.test ∙ ap (λ (w : White). place w q) white_is)
        ∙ sym (ap (λ (station : Option Standard). judged_by station q) held)

    -- BY VALUE
    pub ticket_does_both : ticket_outcome (Ok t) ≡ once_loaded load judged
    unfolding ticket_outcome
    ticket_does_both =
        ap (λ (a : Acceptance). judged_after a (place_written t.settings.white t.test)) (sym same_load)
        ∙ same_judgement load refl

    -- OVER SLICES
    module _ (text : List ℕ) (right : ticket_of text ≡ Ok t) (room : List ℕ) (column : ℕ) where
      abbrev judgement : Answer
      judgement = judge_call load_answer.bytes q room column

      ticket-answer : {o : Outcome} → ticket_outcome (Ok t) ≡ o → ticket_call text room column ≡ reported o room column
      ticket-answer e =
          ticket_call_is text room column ∙ ap (λ (p : Parsed). reported (ticket_outcome p) room column) right
          ∙ ap (λ (o : Outcome). reported o room column) e

      as_stored : {n : ℕ} → load_answer.number ≡ n →
          once_stored load_answer judgement room ≡ cond (eqb n 0) judgement (record { number = n; bytes = room })
      as_stored e = ap (λ (n : ℕ). cond (eqb n 0) judgement (record { number = n; bytes = room })) e

      pub ticket_call_does_both : ticket_call text room column ≡ once_stored load_answer judgement room
      ticket_call_does_both = go load refl
        where
          go : (a : Acceptance) → load ≡ a → ticket_call text room column ≡ once_stored load_answer judgement room
          go (Err n) e =
              let number = sym (load-call-refused zeros formula white l c tolerance r refl e).number in
              let refused : Gives (reported (Err n) room column) (number_of_refusal n) room =
              reported-refused room column refl in
              let some = ne_eqb (number_of_refusal n) 0 (load_some formula white l c tolerance r e) in
              ticket-answer (ticket_does_both ∙ ap (λ (a : Acceptance). once_loaded a judged) e)
              ∙ (λ i. record { number = sym refused.number i; bytes = sym refused.bytes i })
              ∙ sym (as_stored number ∙ rw some)
          go (Ok s) e =
              let number = sym (load_gives zeros formula white l c tolerance r length-zeros e).number in
              ticket-answer (ticket_does_both ∙ ap (λ (a : Acceptance). once_loaded a judged) e)
              ∙ sym (judge_call_is q room column load_answer.bytes) ∙ sym (as_stored number)
