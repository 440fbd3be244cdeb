-- Which load and judgement say the same as a ticket: those whose readings have exactly its values; and every ticket has
-- some. Assumes nothing.
use Rattle.std.specs.Prelude.{◌≡◌, refl, ◌⊎◌, List, ℕ, Ok, Err}
use Rattle.std.proofs.Common.{sym, ap, ◌∙◌, inl, inr}
use Rattle.colour.specs.Placed.{place_written, Placed, Reading, Written}
use Rattle.colour.proofs.Theorems.Placed.Laws.{written_on_grid, written-refused}
use Rattle.colour.specs.Placed.Same.{PlacedAlike, SaysTheSame, same_value_same_place}
use Rattle.colour.specs.Placed.Same.{out_of_range, six_in_every_white, beyond_the_grid, eight_in_every_white}
use Rattle.colour.specs.White.{number_of_white}
use Rattle.colour.specs.declared.refusal.Refusal.{Refusal}
use Rattle.colour.specs.declared.refusal.Refusal.TheVariants as Why
use Rattle.colour.specs.declared.white.White.{White}
use Rattle.sheet.specs.Settings.{number_of_formula}
use Rattle.sheet.specs.declared.settings.Settings.{Settings}
use Rattle.ticket.specs.Ticket.{ticket_of}
use Rattle.ticket.specs.declared.lines.Ticket.{Ticket}
use Rattle.standard.specs.Acceptance.{settings_of}
use Rattle.standard.proofs.Theorems.Acceptance.Numbers.{settings_back}
use Rattle.station.specs.Record.{decode, zeros}
use Rattle.calls.specs.Outcome.{loaded, judged_by, ticket_outcome}
use Rattle.calls.specs.Calls.{load_call, judge_call, ticket_call}
use Rattle.calls.proofs.Theorems.Calls.Every.{as_lab, place_back}
use Rattle.calls.proofs.Theorems.Calls.Ticket.{BothSay, once_loaded, once_stored, ticket_does_both, ticket_call_does_both}

-- ---- readings that have exactly the values of the ticket's

module _
    (t : Ticket) (formula white l c tolerance : ℕ) (r q : Reading)
    (settings : settings_of formula white l c tolerance ≡ Ok t.settings)
    (reference : SaysTheSame r t.reference) (test : SaysTheSame q t.test)
  where
    pub exactly_both_say : BothSay t formula white l c tolerance r q
    exactly_both_say = record {
      settings = settings;
      reference = same_value_same_place reference t.settings.white;
      test = same_value_same_place test t.settings.white;
    }

    pub exact_ticket_does_both :
        ticket_outcome (Ok t)
        ≡ once_loaded (loaded (settings_of formula white l c tolerance) r)
        (judged_by (decode (load_call zeros formula white l c tolerance r).bytes) q)
    exact_ticket_does_both = ticket_does_both exactly_both_say

    pub exact_ticket_call_does_both :
        (text : List ℕ) → ticket_of text ≡ Ok t → (room : List ℕ) (column : ℕ) →
        ticket_call text room column
        ≡ once_stored (load_call zeros formula white l c tolerance r)
        (judge_call (load_call zeros formula white l c tolerance r).bytes q room column) room
    exact_ticket_call_does_both = ticket_call_does_both exactly_both_say

-- ---- EVERY TICKET HAS SUCH CALLS: its own numbers, and for whatever is written a reading that is placed alike

some_alike : (w : White) (d : Written) → (r : Reading) × PlacedAlike w r d
some_alike w d = go (place_written w d) refl
  where
    by : {n : Refusal} → place_written w d ≡ Err n → (n ≡ Why.OutOfRange) ⊎ (n ≡ Why.Beyond256) → (r : Reading) × PlacedAlike w r d
    by e (inl h) = (out_of_range, six_in_every_white w ∙ sym (e ∙ ap Err h))
    by e (inr h) = (beyond_the_grid, eight_in_every_white w ∙ sym (e ∙ ap Err h))

    go : (p : Placed) → place_written w d ≡ p → (r : Reading) × PlacedAlike w r d
    go (Ok c) e = (as_lab c, place_back w c (written_on_grid w d c e) ∙ sym e)
    go (Err n) e = by e (written-refused w d e)

pub some_calls_say :
    (t : Ticket) →
    let by : Settings = t.settings in
    (r : Reading) × (q : Reading) ×
    BothSay t (number_of_formula by.formula) (number_of_white by.white) by.l by.c by.tolerance r q
some_calls_say t =
    let (r, reference) = some_alike t.settings.white t.reference in
    let (q, test) = some_alike t.settings.white t.test in
    (r, q, record { settings = settings_back t.settings; reference = reference; test = test })
