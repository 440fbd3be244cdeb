-- The number of a judgement is that of the first of its rules that holds, and so its rows are true. Assumes nothing.
use Rattle.std.proofs.Math.Path.{◌≡◌, refl, sym, ap}
use Rattle.std.proofs.Common.{subst, ◌∙◌}
use Rattle.std.specs.Prelude.{false, List, [], ◌∷◌, ◌++◌, ◌↔◌, ℕ, eqb, Option, Some, None}
use Rattle.colour.specs.Refusal.{refusal_of}
use native.Mathlib.Omega.{arith}
use Rattle.colour.specs.Placed.Exactly.{NotFinite, OutOfRange, Beyond}
use Rattle.colour.proofs.Theorems.Placed.Exactly.Ways.{read}
use Rattle.colour.specs.Placed.{Reading}
use Rattle.standard.specs.Refusals.{first}
use Rattle.standard.proofs.Theorems.Refusals.Laws.{refusal-room, refusal_keeps}
use Rattle.standard.proofs.Theorems.Judgement.Laws.{outcome-number}
use Rattle.standard.specs.declared.accept.Standard.{Standard}
use Rattle.station.specs.Record.{decode}
use Rattle.station.specs.Record.Exactly.{NoStandard}
use Rattle.station.specs.Record.Exactly.Laws.{no_standard}
use Rattle.calls.specs.Outcome.{judged_by, judge_faults}
use Rattle.calls.specs.Outcome.Each.{judge_each}
use Rattle.calls.proofs.Theorems.Outcome.Judge.{judge-number, judge-room}
use Rattle.calls.specs.Calls.{room_fault, judge_call}
use Rattle.calls.specs.Calls.Numbers.{OneOf, judge_never_1_to_4_or_7}
use Rattle.calls.specs.Exactly.{BeyondHeld, RoomShort, JudgeRows, JudgeByValue, JudgeByCall}
use Rattle.calls.proofs.Theorems.Exactly.Rules.{same, reading_first, room_first}
use Rattle.calls.specs.Exactly.First.{Rule, rule, First, here, later, Same, more, first_same, first_then}
use Rattle.calls.proofs.Theorems.Exactly.Rows.{AnyOf, rows_of, row, row_before, row_zero}

abbrev OfValue : ℕ → Type 0
OfValue n = OneOf n (0 ∷ 5 ∷ 6 ∷ 8 ∷ 9 ∷ [])

module _ (xs : List ℕ) (r : Reading) where
  abbrev judge_rules : List Rule
  judge_rules = rule 9 (NoStandard xs) ∷ rule 5 (NotFinite r) ∷ rule 6 (OutOfRange r) ∷ rule 8 (BeyondHeld xs r) ∷ []

  in_held : {s : Standard} → decode xs ≡ Some s → Beyond s.settings.white r ↔ BeyondHeld xs r
  in_held {s} e =
      (λ b. (s, e, b), λ h. subst (λ (q : Standard). Beyond q.settings.white r) (held_is (sym h.1 ∙ e)) h.2)
    where
      held_is : {p q : Standard} → Some p ≡ Some q → p ≡ q
      held_is e = cc

  judge_first : First judge_rules (refusal_of (judged_by (decode xs) r))
  unfolding judged_by
  judge_first = go (decode xs) refl
    where
      held_not : {s : Standard} → Some s ≡ None → ⊥
      held_not e = let no : ◌≡◌ {A = ℕ} 0 1 = cc in omega arith

      go : (q : Option Standard) → decode xs ≡ q → First judge_rules (refusal_of (judged_by q r))
      go None e = here ((no_standard xs).0 e)
      go (Some s) e =
          later (λ h. held_not (sym e ∙ (no_standard xs).1 h))
          (first_same (more same (more same (more (in_held e) Same.none)))
          (subst (First (rule 5 (NotFinite r) ∷ rule 6 (OutOfRange r) ∷ rule 8 (Beyond s.settings.white r) ∷ []))
          (sym (outcome-number s _)) (reading_first (read s.settings.white r))))

  judge-rows :
      {number : ℕ} → ((k : ℕ) → eqb k 0 ≡ false → eqb k 10 ≡ false → number ≡ k ↔ AnyOf (rows_of k [] judge_rules)) →
      JudgeRows number xs r
  judge-rows is = record { is_9 = is 9 refl refl; is_5 = is 5 refl refl; is_6 = is 6 refl refl; is_8 = is 8 refl refl }

  -- EACH NUMBER OF A JUDGEMENT EXACTLY THEN, by value
  pub judge_by_value : JudgeByValue (refusal_of (judged_by (decode xs) r)) xs r
  judge_by_value =
      record {
        one_of =
            subst OfValue (sym (judge-number (decode xs) r))
            (refusal_keeps OfValue refl (judge_each OfValue refl refl refl refl refl (decode xs) r));
        rows = judge-rows (λ k some other. row judge_first k some);
        is_0 = row_zero refl judge_first;
      }

  -- and as a call
  module _ (room : List ℕ) (column : ℕ) where
    abbrev short : List Rule
    short = rule 10 (RoomShort (judged_by (decode xs) r) room column) ∷ []

    judge-call-number :
        first (refusal_of (judged_by (decode xs) r)) (room_fault (judged_by (decode xs) r) room column).number
        ≡ (judge_call xs r room column).number
    unfolding judge_call
    judge-call-number =
        ap (λ (n : ℕ). first n (room_fault (judged_by (decode xs) r) room column).number) (judge-number (decode xs) r)
        ∙ sym (refusal-room (judge_faults (decode xs) r) _ (judge-room (decode xs) r))

    judge_call_first : First (judge_rules ++ short) (judge_call xs r room column).number
    judge_call_first =
        subst (First (judge_rules ++ short)) judge-call-number
        (first_then refl judge_first (room_first (judged_by (decode xs) r) room column))

    pub judge_by_call : JudgeByCall (judge_call xs r room column).number xs r room column
    judge_by_call =
        record {
          one_of = judge_never_1_to_4_or_7 xs r room column;
          rows =
              judge-rows
              (λ k some other.
              subst (λ (n : ℕ). n ≡ k ↔ AnyOf (rows_of k [] judge_rules)) judge-call-number
              (row_before judge_first (room_first (judged_by (decode xs) r) room column) k some other));
          is_10 = row judge_call_first 10 refl;
          is_0 = row_zero refl judge_call_first;
        }
