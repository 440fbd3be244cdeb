-- What the line of a ticket's answer says: docs/SCOPE.md 9.3, 11.2. Assumes nothing.
use Rattle.std.specs.Prelude.{◌≡◌, refl, List, ℕ, ◌<◌, length, Err, Ok}
use Rattle.std.proofs.Common.{sym, ap, ◌∙◌, arith}
use Rattle.colour.specs.Refusal.{refusal_of}
use Rattle.ticket.specs.Ticket.{ticket_of, Parsed, wrong_line}
use Rattle.ticket.specs.Ticket.Grammar.{WrongAt, too_long, first_wrong}
use Rattle.ticket.proofs.Theorems.Ticket.Grammar.Wrong.{wrong_exactly}
use Rattle.ticket.specs.Ticket.Laws.{ticket_of_long}
use Rattle.ticket.specs.declared.lines.Ticket.{Ticket}
use Rattle.standard.proofs.Theorems.Refusals.Laws.{refusal_keeps}
use Rattle.standard.specs.Figures.{specimen_answer}
use Rattle.calls.specs.Outcome.{ticket_outcome}
use Rattle.calls.specs.Outcome.Each.{right_each}
use Rattle.calls.proofs.Theorems.Outcome.Ticket.{ticket-number}
use Rattle.calls.specs.Line.{ticket_answer}
use Rattle.calls.proofs.Theorems.Exactly.Refused.{specimen-answers}
use Rattle.colour.specs.declared.refusal.Refusal.TheVariants as Why

-- ---- only a wrong text gives 7

abbrev NotSeven : ℕ → Type 0
NotSeven n = n ≡ 7 → ⊥

right_not_seven : (t : Ticket) → NotSeven (refusal_of (ticket_outcome (Ok t)))
right_not_seven t e =
    refusal_keeps NotSeven (λ z. omega arith)
    (right_each NotSeven (λ z. omega arith) (λ z. omega arith) (λ z. omega arith) (λ z. omega arith) (λ z. omega arith) t)
    (sym (ticket-number (Ok t)) ∙ e)

-- ---- the line

-- A WRONG TEXT ANSWERS 7 AND ITS LINE
pub wrong_answer :
    (line : ℕ) → ticket_answer (wrong_line line) ≡ record { line = line; answer = specimen_answer (Err Why.Ticket) }
unfolding ticket_answer ticket_outcome
wrong_answer line = refl

-- LINE IS 0 FOR ALL BUT 7
pub line_0_but_for_7 : (p : Parsed) → ((ticket_answer p).answer.number ≡ 7 → ⊥) → (ticket_answer p).line ≡ 0
unfolding ticket_answer ticket_outcome specimen_answer
line_0_but_for_7 (Ok t) h = refl
line_0_but_for_7 (Err e) h = absurd (h refl)

-- WITH 7 IT IS THE PARSER'S, the first wrong line
pub line_with_7 : (p : Parsed) → (ticket_answer p).answer.number ≡ 7 → p ≡ wrong_line (ticket_answer p).line
unfolding ticket_answer
line_with_7 (Ok t) e =
    absurd ((specimen-answers NotSeven (ticket_outcome (Ok t)) refl (right_not_seven t)).0 e)
line_with_7 (Err m) e = refl

-- ---- LINE 0 WITH 7 IS EXACTLY A TEXT OVER 4,096 BYTES

module _ (text : List ℕ) where
  pub long-text :
      4096 < length text → ticket_answer (ticket_of text) ≡ record { line = 0; answer = specimen_answer (Err Why.Ticket) }
  long-text h = ap ticket_answer (sym (ticket_of_long text h)) ∙ wrong_answer 0

  pub line_0_is_long :
      (ticket_answer (ticket_of text)).answer.number ≡ 7 → (ticket_answer (ticket_of text)).line ≡ 0 → 4096 < length text
  line_0_is_long seven zero =
      at_0 ((wrong_exactly text 0).0 (line_with_7 (ticket_of text) seven ∙ ap wrong_line zero))
    where
      at_0 : WrongAt 0 text → 4096 < length text
      at_0 (too_long e h) = h
      at_0 (first_wrong h short before not) = absurd (omega arith)
