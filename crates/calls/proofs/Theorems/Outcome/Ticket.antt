-- What callers use of what a ticket comes to: each way out; its number is that of its first fault; and whatever is
-- judged was judged by its own valid standard, of a test specimen on the grid. Assumes nothing.
use Rattle.std.specs.Prelude.{◌≡◌, refl, Ok, Err}
use Rattle.std.proofs.Common.{sym, ◌∙◌, arith}
use Rattle.std.proofs.Math.Path.{ap}
use mathlib.Core.List.{List, [], ◌∷◌, map}
use Prim.Native.Nat.{ℕ}
use Rattle.colour.specs.Refusal.{number_of_refusal, refusal_of}
use Rattle.colour.proofs.Theorems.Refusal.{number-some}
use Rattle.colour.specs.declared.refusal.Refusal.{Refusal}
use Rattle.colour.specs.Placed.{place_written, Placed, Written}
use Rattle.colour.proofs.Theorems.Placed.Laws.{written_on_grid}
use Rattle.colour.specs.declared.white.White.{White}
use Rattle.ticket.specs.declared.lines.Ticket.{Ticket}
use Rattle.ticket.specs.Ticket.{Parsed}
use Rattle.standard.specs.Refusals.{at_l, at_c, at_tolerance, at_reference, at_room, number_at, first, first_of, refusal}
use Rattle.standard.proofs.Theorems.Refusals.Laws.{first_zero, first_some, first_of-append}
use Rattle.standard.specs.Acceptance.{range_faults, accept_faults, acceptance, Acceptance}
use Rattle.standard.proofs.Theorems.Acceptance.Laws.{accepted-valid, accept-number}
use Rattle.standard.specs.Judgement.{judgement_of, outcome, Specimen, Judgeable, Outcome}
use Rattle.standard.proofs.Theorems.Judgement.Laws.{Says, judged-says, outcome-number}
use Rattle.standard.specs.declared.accept.Standard.{Standard}
use Rattle.standard.specs.declared.judge.Judgement.{Judgement}
use Rattle.calls.specs.Outcome.{judged_after, ticket_outcome, ticket_faults}

-- a written reading that is refused has a number
written_some : (w : White) (r : Written) {e : Refusal} → place_written w r ≡ Err e → number_of_refusal e ≡ 0 → ⊥
written_some w r {e} h z = number-some e z

module _ (t : Ticket) where
  abbrev reference : Placed
  reference = place_written t.settings.white t.reference

  abbrev test : Placed
  test = place_written t.settings.white t.test

  -- each way out
  module _ {p : Placed} {a : Acceptance} (hp : p ≡ reference) (ha : a ≡ acceptance t.settings p) where
    comes_to : acceptance t.settings reference ≡ a
    comes_to = sym (ha ∙ ap (acceptance t.settings) hp)

    pub ticket_unaccepted : {n : Refusal} → a ≡ Err n → Err n ≡ ticket_outcome (Ok t)
    unfolding ticket_outcome
    ticket_unaccepted h = rw (comes_to, h)

    module _ {s : Standard} (h : a ≡ Ok s) {q : Placed} (hq : q ≡ test) where
      pub ticket-judged : {o : Outcome} → o ≡ outcome s q → o ≡ ticket_outcome (Ok t)
      unfolding ticket_outcome
      ticket-judged ho = rw (comes_to, h, ho, hq)

      pub ticket-judgeable : Judgeable s q
      ticket-judgeable =
          record {
            standard = accepted-valid t.settings reference (written_on_grid _ t.reference) s (comes_to ∙ h);
            test = λ c g. written_on_grid _ t.test c (sym hq ∙ g);
          }

  -- ---- its number

  -- the test specimen's fault comes after those of the load
  right-refusal :
      refusal (ticket_faults (Ok t)) ≡ first (refusal (accept_faults t.settings reference)) (refusal_of test)
  unfolding ticket_faults refusal number_at first_of accept_faults range_faults
  right-refusal =
      let fs : List ℕ =
      map (number_at (accept_faults t.settings reference)) (at_l ∷ at_c ∷ at_tolerance ∷ at_reference ∷ []) in
      first_of-append fs (refusal_of test ∷ []) ∙ ap (first (first_of fs)) (first_zero (refusal_of test))

  after-number : (a : Acceptance) → refusal_of (judged_after a test) ≡ first (refusal_of a) (refusal_of test)
  after-number (Err e) = sym (first_some (refusal_of test) (number-some e))
  after-number (Ok s) = outcome-number s test

  -- the load's number, or else the test specimen's
  pub both_number :
      refusal_of (ticket_outcome (Ok t))
      ≡ first (refusal_of (acceptance t.settings reference)) (refusal_of test)
  unfolding ticket_outcome
  both_number = after-number (acceptance t.settings reference)

  right-number : refusal_of (ticket_outcome (Ok t)) ≡ refusal (ticket_faults (Ok t))
  right-number =
      both_number
      ∙ ap (λ (n : ℕ). first n (refusal_of test)) (accept-number t.settings reference) ∙ sym right-refusal

pub ticket-number : (p : Parsed) → refusal_of (ticket_outcome p) ≡ refusal (ticket_faults p)
unfolding ticket_outcome ticket_faults refusal number_at first_of
ticket-number (Err e) = refl
ticket-number (Ok t) = right-number t

-- a refused ticket has a number
pub ticket_some : (p : Parsed) {e : Refusal} → ticket_outcome p ≡ Err e → number_of_refusal e ≡ 0 → ⊥
ticket_some p {e} h z = number-some e z

pub ticket-room : (p : Parsed) → number_at (ticket_faults p) at_room ≡ 0
unfolding ticket_faults number_at accept_faults range_faults
ticket-room (Err e) = refl
ticket-room (Ok t) = refl

-- ---- what is judged

-- j is said of a ticket: by its own standard, of the colour that its test line says
pub record SaidIn (p : Parsed) (j : Judgement) : Type 0 where
  pub ticket : Ticket
  pub right : p ≡ Ok ticket
  pub accepted :
      acceptance ticket.settings (place_written ticket.settings.white ticket.reference)
      ≡ Ok j.standard
  pub read : place_written ticket.settings.white ticket.test ≡ Ok j.test
  pub is : j ≡ judgement_of j.standard j.test
  pub asked : Specimen j.standard j.test

right-said :
    (t : Ticket) (s : Standard) {j : Judgement} → acceptance t.settings (reference t) ≡ Ok s →
    Says s (test t) j → SaidIn (Ok t) j
right-said t s {j} e says =
    let accepted : acceptance t.settings (reference t) ≡ Ok j.standard =
    e ∙ ap Ok says.standard in
    record {
      ticket = t;
      right = refl;
      accepted = accepted;
      read = says.placed;
      is = says.is;
      asked = record {
        standard =
            accepted-valid t.settings (reference t) (written_on_grid _ t.reference) j.standard accepted;
        test = written_on_grid _ t.test j.test says.placed;
      };
    }

pub ticket-said : (p : Parsed) {j : Judgement} → ticket_outcome p ≡ Ok j → SaidIn p j
unfolding ticket_outcome
ticket-said (Err m) e = let no : ◌≡◌ {A = ℕ} 0 1 = cc in absurd (omega arith)
ticket-said (Ok t) {j} e = go (acceptance t.settings (reference t)) refl e
  where
    go : (a : Acceptance) → acceptance t.settings (reference t) ≡ a → judged_after a (test t) ≡ Ok j →
        SaidIn (Ok t) j
    go (Err n) e h = let no : ◌≡◌ {A = ℕ} 0 1 = cc in absurd (omega arith)
    go (Ok s) e h = right-said t s e (judged-says s (test t) h)
