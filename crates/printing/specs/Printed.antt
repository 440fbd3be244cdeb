-- docs/SCOPE.md 11: what the program prints for a text. `Printed/Laws.antt` has each way out, `Printed/Cases.antt`
-- whole texts with what is printed for them. Assumes nothing.
use Rattle.std.specs.Prelude.{◌≡◌, Bool, cond, List, [], ◌∷◌, ℕ, leb, length, Ok, Err}
use Rattle.std.proofs.Common.{sym, ◌∙◌}
use Rattle.colour.specs.Refusal.{number_of_refusal}
use Rattle.text.specs.Ascii.{ascii}
use Rattle.text.specs.Put.{put_at, joined}
use Rattle.text.specs.Decimal.{whole_text}
use Rattle.ticket.specs.Ticket.{ticket_of}
use Rattle.report.specs.Report.{report_text}
use Rattle.standard.specs.Judgement.{Outcome}
use Rattle.calls.specs.Outcome.{ticket_outcome}
pub use Rattle.calls.specs.Line.{line_of}
pub mod Laws
pub mod Cases

-- ---- the line of a refusal

-- refused=7 line=3
abbrev pub refusal_pieces : (number line : ℕ) → List (List ℕ)
refusal_pieces number line = ascii "refused=" ∷ whole_text number ∷ ascii " line=" ∷ whole_text line ∷ ascii "\n" ∷ []

unfoldable pub refusal_line : (number line : ℕ) → List ℕ
refusal_line number line = joined (refusal_pieces number line)

-- ---- what is printed

abbrev pub outcome_text : Outcome → (line : ℕ) → List ℕ
outcome_text (Err e) line = refusal_line (number_of_refusal e) line
outcome_text (Ok j) line = report_text j

-- THE PROGRAM, its line that of a ticket's answer: from the bytes of standard input to those of standard output
unfoldable pub printed_text : List ℕ → List ℕ
printed_text text = outcome_text (ticket_outcome (ticket_of text)) (line_of (ticket_of text))

-- ---- a text printed into a lent slice

abbrev pub fits : (out s : List ℕ) → Bool
fits out s = leb (length s) (length out)

-- s at the start of the slice, every other byte as it was, and how long s is; or 0 and the slice unchanged, where it is
-- too short for s
pub record Prints (before s : List ℕ) (n : ℕ) (after : List ℕ) : Type 0 where
  pub count : n ≡ cond (fits before s) (length s) 0
  pub bytes : after ≡ cond (fits before s) (put_at before 0 s) before

-- ANY TWO OUTCOMES THAT A CONTRACT ADMITS ARE EQUAL: the count, and the bytes of the lent slice
pub prints_one :
    {before s : List ℕ} {n m : ℕ} {after others : List ℕ} →
    Prints before s n after → Prints before s m others → (n ≡ m) × (after ≡ others)
prints_one p q = (p.count ∙ sym q.count, p.bytes ∙ sym q.bytes)
