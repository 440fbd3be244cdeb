-- What holds of 0 and of each number that a call's faults can have holds of each of its faults. Assumes nothing.
use Rattle.std.specs.Prelude.{◌≡◌, refl, Bool, true, false, not, cond, ◌⊎◌, ℕ, Ok, Err, Option, Some, None}
use Rattle.std.proofs.Common.{inl, inr}
use Rattle.colour.specs.Refusal.{number_of_refusal, refusal_of}
use Rattle.colour.specs.declared.refusal.Refusal.{Refusal}
use Rattle.colour.specs.declared.refusal.Refusal.TheVariants as Why
use Rattle.colour.specs.Placed.{place, place_written, Placed, Reading, Written}
use Rattle.colour.proofs.Theorems.Placed.Laws.{place-refused, written-refused}
use Rattle.colour.specs.White.{white_numbered}
use Rattle.colour.specs.declared.white.White.{White}
use Rattle.sheet.specs.Settings.{formula_numbered, is_factor, is_tolerance}
use Rattle.ticket.specs.declared.lines.Ticket.{Ticket}
use Rattle.ticket.specs.Ticket.{Parsed}
use Rattle.standard.proofs.Theorems.Refusals.Laws.{Each, none, more}
use Rattle.standard.specs.Acceptance.{no_formula, no_white, range_faults, accept_faults}
use Rattle.standard.specs.declared.accept.Standard.{Standard}
use Rattle.calls.specs.Outcome.{read_in, load_faults, judge_faults, ticket_faults}

module _ (Q : ℕ → Type 0) (zero : Q 0) where
  pub there_keeps : {n : ℕ} (there : Bool) → Q n → Q (cond there n 0)
  there_keeps true q = q
  there_keeps false q = zero

  reading_keeps : Q 5 → Q 6 → Q 8 → (w : White) (r : Reading) → Q (refusal_of (place w r))
  reading_keeps five six eight w r = go (place w r) refl
    where
      by :
          {e : Refusal} → (e ≡ Why.NotANumber) ⊎ ((e ≡ Why.OutOfRange) ⊎ (e ≡ Why.Beyond256)) → Q (number_of_refusal e)
      by (inl h) = rw h five
      by (inr (inl h)) = rw h six
      by (inr (inr h)) = rw h eight

      go : (p : Placed) → place w r ≡ p → Q (refusal_of p)
      go (Ok c) e = zero
      go (Err n) e = by (place-refused w r e)

  written_keeps : Q 6 → Q 8 → (w : White) (r : Written) → Q (refusal_of (place_written w r))
  written_keeps six eight w r = go (place_written w r) refl
    where
      by : {e : Refusal} → (e ≡ Why.OutOfRange) ⊎ (e ≡ Why.Beyond256) → Q (number_of_refusal e)
      by (inl h) = rw h six
      by (inr h) = rw h eight

      go : (p : Placed) → place_written w r ≡ p → Q (refusal_of p)
      go (Ok c) e = zero
      go (Err n) e = by (written-refused w r e)

  range_each : Q 3 → Q 4 → (l c tolerance : ℕ) → Each Q (range_faults l c tolerance)
  unfolding range_faults
  range_each three four l c tolerance =
      more (there_keeps (not (is_factor l)) three)
      (more (there_keeps (not (is_factor c)) three) (more (there_keeps (not (is_tolerance tolerance)) four) none))

  read_keeps : Q 5 → Q 6 → Q 8 → (w : Option White) (r : Reading) → Q (read_in w r)
  read_keeps five six eight (Some w) r = reading_keeps five six eight w r
  read_keeps five six eight None r = zero

  pub load_each :
      Q 1 → Q 2 → Q 3 → Q 4 → Q 5 → Q 6 → Q 8 → (formula white l c tolerance : ℕ) (r : Reading) →
      Each Q (load_faults formula white l c tolerance r)
  unfolding load_faults
  load_each one two three four five six eight formula white l c tolerance r =
      more (there_keeps (no_formula (formula_numbered formula)) one)
      (more (there_keeps (no_white (white_numbered white)) two)
      (more (read_keeps five six eight (white_numbered white) r) (range_each three four l c tolerance)))

  pub judge_each : Q 5 → Q 6 → Q 8 → Q 9 → (station : Option Standard) (r : Reading) → Each Q (judge_faults station r)
  unfolding judge_faults
  judge_each five six eight nine None r = more nine none
  judge_each five six eight nine (Some s) r = more (reading_keeps five six eight s.settings.white r) none

  pub right_each : Q 3 → Q 4 → Q 6 → Q 8 → (t : Ticket) → Each Q (ticket_faults (Ok t))
  unfolding ticket_faults accept_faults
  right_each three four six eight t =
      let by = t.settings in
      more (written_keeps six eight by.white t.test)
      (more (written_keeps six eight by.white t.reference)
      (range_each three four by.l by.c by.tolerance))

  pub ticket_each : Q 3 → Q 4 → Q 6 → Q 7 → Q 8 → (p : Parsed) → Each Q (ticket_faults p)
  unfolding ticket_faults
  ticket_each three four six seven eight (Err e) = more seven none
  ticket_each three four six seven eight (Ok t) = right_each three four six eight t
