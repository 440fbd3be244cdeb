-- What callers go by: what is printed by each way out of a text, and into a lent slice. Assumes nothing.
use Rattle.std.specs.Prelude.{◌≡◌, Bool, true, false, cond, List, ℕ, ◌+◌, ◌-◌, ◌≤◌, ◌<◌, length, take, Ok, Err}
use Rattle.std.proofs.Math.Path.{refl, sym, ap}
use Rattle.std.proofs.Common.{◌∙◌, subst, ⊎_elim, arith, zero-add, eq-zero-or-pos, le-leb, leb-true, length-append, length-take, take_all}
use Rattle.std.proofs.lemmas.Bool.{lt-leb}
use Rattle.std.proofs.Math.Dec.{leb}
use Rattle.colour.specs.Refusal.{number_of_refusal}
use Rattle.colour.specs.declared.refusal.Refusal.{Refusal}
use Rattle.text.specs.Put.{put_at, Puts}
use Rattle.text.proofs.Theorems.Put.Laws.{put-length}
use Rattle.text.specs.Decimal.{whole_text}
use Rattle.ticket.specs.Ticket.{ticket_of, Parsed, wrong_line}
use Rattle.ticket.specs.Ticket.Laws.{ticket_of_long}
use Rattle.ticket.specs.declared.lines.Ticket.{Ticket}
use Rattle.report.specs.Report.{report_text}
use Rattle.report.specs.Write.{has_room, Reported}
use Rattle.standard.specs.declared.judge.Judgement.{Judgement}
use Rattle.standard.specs.Judgement.{Outcome}
use Rattle.calls.specs.Outcome.{ticket_outcome}
use Rattle.printing.specs.Printed.{refusal_line, line_of, printed_text, fits, Prints}

-- ---- for a text

module _ (text : List ℕ) where
  -- by what it is parsed as, and what that comes to
  module _ {p : Parsed} {o : Outcome} (ep : p ≡ ticket_of text) (eo : o ≡ ticket_outcome p) where
    pub refusal-printed :
        {e : Refusal} {line : ℕ} → o ≡ Err e → line ≡ line_of p →
        refusal_line (number_of_refusal e) line ≡ printed_text text
    unfolding printed_text
    refusal-printed h l = sym (rw (← ep, ← eo, h, ← l))

    pub report-printed : {j : Judgement} → o ≡ Ok j → report_text j ≡ printed_text text
    unfolding printed_text
    report-printed h = sym (rw (← ep, ← eo, h))

  -- a wrong text names its line, and a right one that is refused line 0
  pub printed-wrong : {line : ℕ} → ticket_of text ≡ wrong_line line → printed_text text ≡ refusal_line 7 line
  unfolding ticket_outcome
  printed-wrong e = sym (refusal-printed (sym e) refl refl refl)

  pub printed-refused :
      {t : Ticket} {e : Refusal} → ticket_of text ≡ Ok t → ticket_outcome (Ok t) ≡ Err e →
      printed_text text ≡ refusal_line (number_of_refusal e) 0
  printed-refused e h = sym (refusal-printed (sym e) refl h refl)

  printed-long : 4096 < length text → printed_text text ≡ refusal_line 7 0
  printed-long h = printed-wrong (sym (ticket_of_long text h))

-- 4,097 bytes of a text tell what is printed for the whole of it
pub printed-start : (text : List ℕ) → printed_text (take 4097 text) ≡ printed_text text
printed-start text =
    ⊎_elim
    (λ (h : length text - 4096 ≡ 0). ap printed_text (take_all 4097 text (omega arith)))
    (λ (h : 0 < length text - 4096). printed-long (take 4097 text) (omega (arith, length-take 4097 text))
    ∙ sym (printed-long text (omega arith)))
    (eq-zero-or-pos (length text - 4096))

-- ---- the line of a refusal

pub refusal-length :
    (number line : ℕ) → length (refusal_line number line)
    ≡ 8 + length (whole_text number) + 6 + length (whole_text line) + 1
unfolding refusal_line
refusal-length number line = simp length-append (omega arith)

-- ---- into a lent slice

pub prints_as : {before s t after : List ℕ} {n : ℕ} → s ≡ t → Prints before s n after → Prints before t n after
prints_as {before} {s} {t} {after} {n} e p = subst (λ (l : List ℕ). Prints before l n after) e p

pub prints_put :
    {before s after : List ℕ} {n : ℕ} → length s ≤ length before → Puts before 0 s n after → Prints before s n after
prints_put {s = s} h p =
    record { count = p.end ∙ zero-add (length s) ∙ rw (le-leb _ _ h); bytes = p.bytes ∙ rw (le-leb _ _ h) }

pub prints_nothing : (before s : List ℕ) → length before < length s → Prints before s 0 before
prints_nothing before s h = record { count = rw (lt-leb _ _ h); bytes = rw (lt-leb _ _ h) }

-- the slice's length stays, and the count is at most that
module _ {before s after : List ℕ} {n : ℕ} (p : Prints before s n after) where
  prints_length : length after ≡ length before
  prints_length = go (fits before s) refl p.bytes
    where
      go : (b : Bool) → fits before s ≡ b → after ≡ cond b (put_at before 0 s) before → length after ≡ length before
      go true h e = ap length e ∙ put-length before 0 s (omega (arith, leb-true (length s) (length before) h))
      go false h e = ap length e

  pub prints_le : n ≤ length after
  prints_le = go (fits before s) refl p.count
    where
      go : (b : Bool) → fits before s ≡ b → n ≡ cond b (length s) 0 → n ≤ length after
      go true h e = omega (arith, leb-true (length s) (length before) h, prints_length)
      go false h e = omega arith

module _ {before after : List ℕ} {j : Judgement} {number : ℕ} (w : Reported before 0 j number after) where
  room_is_fits : has_room before 0 j ≡ fits before (report_text j)
  unfolding has_room
  room_is_fits = ap (λ (k : ℕ). leb k (length before)) (zero-add (length (report_text j)))

  number_by_fits : number ≡ cond (fits before (report_text j)) 0 10
  number_by_fits = w.number_is ∙ ap (λ (b : Bool). cond b 0 10) room_is_fits

  after_by_fits : after ≡ cond (fits before (report_text j)) (put_at before 0 (report_text j)) before
  after_by_fits = w.room_is ∙ ap (λ (b : Bool). cond b (put_at before 0 (report_text j)) before) room_is_fits

  pub prints_report : {n : ℕ} → number ≡ 0 → n ≡ length (report_text j) → Prints before (report_text j) n after
  prints_report z e = record { count = e ∙ go (fits before (report_text j)) number_by_fits; bytes = after_by_fits }
    where
      go : (b : Bool) → number ≡ cond b 0 10 → length (report_text j) ≡ cond b (length (report_text j)) 0
      go true h = refl
      go false h = absurd (omega arith)

  pub prints_no_report : (number ≡ 0 → ⊥) → Prints before (report_text j) 0 after
  prints_no_report z = record { count = go (fits before (report_text j)) number_by_fits; bytes = after_by_fits }
    where
      go : (b : Bool) → number ≡ cond b 0 10 → 0 ≡ cond b (length (report_text j)) 0
      go true h = absurd (z h)
      go false h = refl
