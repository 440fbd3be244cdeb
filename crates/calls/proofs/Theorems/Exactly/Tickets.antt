-- The number of a ticket is that of the first of its rules that holds, and so its rows are true. Assumes nothing.
use Rattle.std.specs.Prelude.{◌≡◌, refl, false, List, [], ◌∷◌, ◌++◌, ◌↔◌, ℕ, eqb, Ok, Err}
use Rattle.std.proofs.Math.Path.{sym, ap}
use Rattle.std.proofs.Common.{subst, ◌∙◌, arith}
use Rattle.colour.specs.Refusal.{refusal_of}
use Rattle.colour.specs.Placed.{place_written}
use Rattle.colour.specs.Placed.Exactly.{WrittenOutOfRange, WrittenBeyond}
use Rattle.colour.proofs.Theorems.Placed.Exactly.Ways.{read-written}
use Rattle.ticket.specs.Ticket.{ticket_of, Parsed, wrong_line}
use Rattle.ticket.proofs.Theorems.Ticket.Grammar.Wrong.{wrong_exactly}
use Rattle.ticket.proofs.Theorems.Ticket.Grammar.Right.{right_exactly}
use Rattle.ticket.specs.declared.lines.Ticket.{Ticket}
use Rattle.standard.specs.Refusals.{first}
use Rattle.standard.proofs.Theorems.Refusals.Laws.{refusal-room, refusal_keeps}
use Rattle.station.specs.Record.Exactly.{FactorsOut, ToleranceOut}
use Rattle.station.specs.Record.Exactly.Accepting.{accepting}
use Rattle.calls.specs.Outcome.{ticket_outcome, ticket_faults}
use Rattle.calls.specs.Outcome.Each.{ticket_each}
use Rattle.calls.proofs.Theorems.Outcome.Ticket.{both_number, ticket-number, ticket-room}
use Rattle.calls.specs.Calls.{room_fault, ticket_call}
use Rattle.calls.specs.Calls.Numbers.{OneOf, ticket_never_1_2_5_or_9}
use Rattle.calls.specs.Exactly.{WrongText, InTicket, TicketFactorsOut, TicketToleranceOut}
use Rattle.calls.specs.Exactly.{ReferenceOut, ReferenceBeyond, TestOut, TestBeyond}
use Rattle.calls.specs.Exactly.{RoomShort, TicketRows, TicketByValue, TicketByCall}
use Rattle.calls.proofs.Theorems.Exactly.Rules.{written_first, accept_first, room_first}
use Rattle.calls.specs.Exactly.First.{Rule, rule, First, here, later, Same, more, first_same, first_then}
use Rattle.calls.proofs.Theorems.Exactly.Rows.{AnyOf, rows_of, row, row_before, row_zero}

abbrev OfValue : ℕ → Type 0
OfValue n = OneOf n (0 ∷ 3 ∷ 4 ∷ 6 ∷ 7 ∷ 8 ∷ [])

-- ---- a right ticket

module _ (t : Ticket) where
  abbrev right_rules : List Rule
  right_rules =
      rule 3 (FactorsOut t.settings.l t.settings.c) ∷ rule 4 (ToleranceOut t.settings.tolerance)
      ∷ rule 6 (WrittenOutOfRange t.reference) ∷ rule 8 (WrittenBeyond t.settings.white t.reference)
      ∷ rule 6 (WrittenOutOfRange t.test) ∷ rule 8 (WrittenBeyond t.settings.white t.test) ∷ []

  right_first : First right_rules (refusal_of (ticket_outcome (Ok t)))
  right_first =
      let w = t.settings.white in
      let load = accepting t.settings (place_written w t.reference) in
      subst (First right_rules) (sym (both_number t))
      (first_then refl (accept_first load (written_first (read-written w t.reference)))
      (written_first (read-written w t.test)))

-- ---- any text

module _ (text : List ℕ) where
  abbrev ticket_rules : List Rule
  ticket_rules =
      rule 7 (WrongText text) ∷ rule 3 (TicketFactorsOut text) ∷ rule 4 (TicketToleranceOut text)
      ∷ rule 6 (ReferenceOut text) ∷ rule 8 (ReferenceBeyond text)
      ∷ rule 6 (TestOut text) ∷ rule 8 (TestBeyond text) ∷ []

  in_ticket : {t : Ticket} → ticket_of text ≡ Ok t → (P : Ticket → Type 0) → P t ↔ InTicket text P
  in_ticket {t} e P = (
    λ p. (t, (right_exactly text t).0 e, p),
    λ h. subst P (right_is (sym ((right_exactly text h.0).1 h.1) ∙ e)) h.2,
  )
    where
      right_is : {s u : Ticket} → ◌≡◌ {A = Parsed} (Ok s) (Ok u) → s ≡ u
      right_is e = cc

  wrong_first : (line : ℕ) → ticket_of text ≡ wrong_line line → First ticket_rules (refusal_of (ticket_outcome (wrong_line line)))
  unfolding ticket_outcome
  wrong_first line e = here {r = rule 7 (WrongText text)} (line, (wrong_exactly text line).0 e)

  ticket_first : First ticket_rules (refusal_of (ticket_outcome (ticket_of text)))
  ticket_first = go (ticket_of text) refl
    where
      right_not : {t : Ticket} {n : ℕ} → ◌≡◌ {A = Parsed} (Ok t) (wrong_line n) → ⊥
      right_not e = let no : ◌≡◌ {A = ℕ} 0 1 = cc in omega arith

      go : (p : Parsed) → ticket_of text ≡ p → First ticket_rules (refusal_of (ticket_outcome p))
      go (Err m) e = wrong_first m.0 e
      go (Ok t) e =
          later {r = rule 7 (WrongText text)} (λ h. right_not (sym e ∙ (wrong_exactly text h.0).1 h.1))
          (first_same
          (more (in_ticket e _) (more (in_ticket e _)
          (more (in_ticket e _) (more (in_ticket e _) (more (in_ticket e _) (more (in_ticket e _) Same.none))))))
          (right_first t))

  ticket-rows :
      {number : ℕ} → ((k : ℕ) → eqb k 0 ≡ false → eqb k 10 ≡ false → number ≡ k ↔ AnyOf (rows_of k [] ticket_rules)) →
      TicketRows number text
  ticket-rows is =
      record {
        is_7 = is 7 refl refl;
        is_3 = is 3 refl refl;
        is_4 = is 4 refl refl;
        is_6 = is 6 refl refl;
        is_8 = is 8 refl refl;
      }

  -- EACH NUMBER OF A TICKET EXACTLY THEN, by value
  pub ticket_by_value : TicketByValue (refusal_of (ticket_outcome (ticket_of text))) text
  ticket_by_value =
      record {
        one_of =
            subst OfValue (sym (ticket-number (ticket_of text)))
            (refusal_keeps OfValue refl (ticket_each OfValue refl refl refl refl refl refl (ticket_of text)));
        rows = ticket-rows (λ k some other. row ticket_first k some);
        is_0 = row_zero refl ticket_first;
      }

  -- and as a call
  module _ (room : List ℕ) (column : ℕ) where
    abbrev short : List Rule
    short = rule 10 (RoomShort (ticket_outcome (ticket_of text)) room column) ∷ []

    ticket-call-number :
        first (refusal_of (ticket_outcome (ticket_of text))) (room_fault (ticket_outcome (ticket_of text)) room column).number
        ≡ (ticket_call text room column).number
    unfolding ticket_call
    ticket-call-number =
        ap (λ (n : ℕ). first n (room_fault (ticket_outcome (ticket_of text)) room column).number)
        (ticket-number (ticket_of text))
        ∙ sym (refusal-room (ticket_faults (ticket_of text)) _ (ticket-room (ticket_of text)))

    ticket_call_first : First (ticket_rules ++ short) (ticket_call text room column).number
    ticket_call_first =
        subst (First (ticket_rules ++ short)) ticket-call-number
        (first_then refl ticket_first (room_first (ticket_outcome (ticket_of text)) room column))

    pub ticket_by_call : TicketByCall (ticket_call text room column).number text room column
    ticket_by_call =
        record {
          one_of = ticket_never_1_2_5_or_9 text room column;
          rows =
              ticket-rows
              (λ k some other.
              subst (λ (n : ℕ). n ≡ k ↔ AnyOf (rows_of k [] ticket_rules)) ticket-call-number
              (row_before ticket_first (room_first (ticket_outcome (ticket_of text)) room column) k some other));
          is_10 = row ticket_call_first 10 refl;
          is_0 = row_zero refl ticket_call_first;
        }
