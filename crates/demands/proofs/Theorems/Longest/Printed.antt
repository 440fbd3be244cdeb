-- NOTHING THAT THE PROGRAM PRINTS IS LONGER THAN 161 BYTES, report or refusal, whatever text it reads: into a slice of
-- so many bytes all of it goes. Assumes nothing.
use Rattle.std.specs.Prelude.{◌≡◌, refl, List, ℕ, ◌≤◌, length, Ok, Err}
use Rattle.std.proofs.Common.{◌∙◌, arith, le-leb}
use Rattle.colour.specs.Refusal.{number_of_refusal}
use Rattle.text.specs.Put.{put_at}
use Rattle.text.specs.Decimal.{whole_text}
use Rattle.text.proofs.Theorems.Decimal.Laws.{last_digits_length, width_few}
use Rattle.ticket.specs.Ticket.{ticket_of}
use Rattle.standard.specs.Judgement.{Outcome}
use Rattle.calls.specs.Outcome.{ticket_outcome}
use Rattle.printing.specs.Printed.{line_of, outcome_text, printed_text, Prints}
use Rattle.printing.specs.Printed.Laws.{refusal-length}
use Rattle.demands.specs.Longest.{Short}
use Rattle.demands.proofs.Theorems.Longest.{ticket-short}

whole_length_le : (n : ℕ) → length (whole_text n) ≤ 21
whole_length_le n = rw last_digits_length (width_few n)

outcome-length-le : (o : Outcome) (line : ℕ) → Short o → length (outcome_text o line) ≤ 161
outcome-length-le (Err e) line short =
    let n = number_of_refusal e in
    omega (arith, refusal-length n line, whole_length_le n, whole_length_le line)
outcome-length-le (Ok j) line short = short j refl

module _ (text : List ℕ) where
  pub printed-length-le : length (printed_text text) ≤ 161
  unfolding printed_text
  printed-length-le =
      outcome-length-le (ticket_outcome (ticket_of text)) (line_of (ticket_of text)) (ticket-short (ticket_of text))

  pub all_is_printed :
      {before after : List ℕ} {n : ℕ} → 161 ≤ length before → Prints before (printed_text text) n after →
      (n ≡ length (printed_text text)) × (after ≡ put_at before 0 (printed_text text))
  all_is_printed {before} room p =
      let enough = le-leb (length (printed_text text)) (length before) (omega (arith, printed-length-le)) in
      (p.count ∙ rw enough, p.bytes ∙ rw enough)
