-- The number of a load is that of the first of its rules that holds, and so its rows are true. Assumes nothing.
use Rattle.std.specs.Prelude.{◌≡◌, refl, Bool, true, false, not, cond, List, [], ◌∷◌, ◌++◌, ◌↔◌, ℕ, eqb, length, Result, Some}
use Rattle.std.proofs.Math.Path.{sym, ap}
use Rattle.std.proofs.Common.{subst, ◌∙◌, eqb-true}
use Rattle.std.proofs.lemmas.Bool.{eqb-false}
use Rattle.colour.specs.Refusal.{refusal_of}
use Rattle.colour.specs.Placed.Exactly.{NotFinite, OutOfRange, Beyond}
use Rattle.colour.proofs.Theorems.Placed.Exactly.Ways.{read}
use Rattle.colour.specs.White.{white_numbered}
use Rattle.colour.specs.Placed.{Reading}
use Rattle.colour.specs.declared.white.White.{White}
use Rattle.standard.specs.Refusals.{first}
use Rattle.standard.proofs.Theorems.Refusals.Laws.{refusal-room, refusal_keeps}
use Rattle.standard.specs.Acceptance.{settings_of}
use Rattle.sheet.specs.declared.settings.Settings.{Settings}
use Rattle.colour.specs.declared.refusal.Refusal.{Refusal}
use Rattle.station.specs.Record.Exactly.{NoFormula, NoWhite, FactorsOut, ToleranceOut}
use Rattle.station.specs.Record.Exactly.Accepting.{Named, no_formula_lem, no_white_lem, are, names, accepting}
use Rattle.calls.specs.Outcome.{loaded}
use Rattle.calls.specs.Outcome.Each.{load_each}
use Rattle.calls.proofs.Theorems.Outcome.Load.{load-number, load-room}
use Rattle.calls.specs.Calls.{length_fault, load_call}
use Rattle.calls.specs.Calls.Numbers.{OneOf, load_never_7_or_9}
use Rattle.calls.specs.Exactly.{BeyondIn, wrong_load, LoadRows, LoadByValue, LoadByCall}
use Rattle.calls.proofs.Theorems.Exactly.Rules.{same, reading_first, accept_first}
use Rattle.calls.specs.Exactly.First.{Rule, rule, First, here, later, Same, more, first_same, first_then}
use Rattle.calls.proofs.Theorems.Exactly.Rows.{none_more, none_split, AnyOf, rows_of, row, row_before, row_zero}

abbrev OfValue : ℕ → Type 0
OfValue n = OneOf n (0 ∷ 1 ∷ 2 ∷ 3 ∷ 4 ∷ 5 ∷ 6 ∷ 8 ∷ [])

module _ (formula white l c tolerance : ℕ) (r : Reading) where
  abbrev load_rules : List Rule
  load_rules =
      rule 1 (NoFormula formula) ∷ rule 2 (NoWhite white) ∷ rule 3 (FactorsOut l c) ∷ rule 4 (ToleranceOut tolerance)
      ∷ rule 5 (NotFinite r) ∷ rule 6 (OutOfRange r) ∷ rule 8 (BeyondIn white r) ∷ []

  in_white : {w : White} → white_numbered white ≡ Some w → Beyond w r ↔ BeyondIn white r
  in_white {w} e = (λ b. (w, e, b), λ h. subst (λ (v : White). Beyond v r) (cc h.1) h.2)

  named_first : {q : Result Settings Refusal} → Named formula white l c tolerance q → First load_rules (refusal_of (loaded q r))
  unfolding loaded
  named_first (no_formula_lem h) = here h
  named_first (no_white_lem f h) = later f (here h)
  named_first (are f g k w e) =
      later f (later g
      (first_same (more same (more same (more same (more same (more (in_white e) Same.none)))))
      (accept_first (accepting _ _) (reading_first (read w r)))))

  load_first : First load_rules (refusal_of (loaded (settings_of formula white l c tolerance) r))
  load_first = named_first (names formula white l c tolerance)

  load-rows :
      {number : ℕ} → ((k : ℕ) → eqb k 0 ≡ false → eqb k 10 ≡ false → number ≡ k ↔ AnyOf (rows_of k [] load_rules)) →
      LoadRows number formula white l c tolerance r
  load-rows is =
      record {
        is_1 = is 1 refl refl;
        is_2 = is 2 refl refl;
        is_3 = is 3 refl refl;
        is_4 = is 4 refl refl;
        is_5 = is 5 refl refl;
        is_6 = is 6 refl refl;
        is_8 = is 8 refl refl;
      }

  -- EACH NUMBER OF A LOAD EXACTLY THEN, by value
  pub load_by_value :
      LoadByValue (refusal_of (loaded (settings_of formula white l c tolerance) r)) formula white l c tolerance r
  load_by_value =
      record {
        one_of =
            subst OfValue (sym (load-number l c tolerance r formula white))
            (refusal_keeps OfValue refl
            (load_each OfValue refl refl refl refl refl refl refl refl formula white l c tolerance r));
        rows = load-rows (λ k some other. row load_first k some);
        is_0 = row_zero refl load_first;
      }

  -- and as a call
  module _ (xs : List ℕ) where
    length_first : First (rule 10 (¬ (length xs ≡ 20)) ∷ []) (length_fault xs).number
    length_first = go (eqb (length xs) 20) refl
      where
        go : (b : Bool) → eqb (length xs) 20 ≡ b → First (rule 10 (¬ (length xs ≡ 20)) ∷ []) (cond (not b) 10 0)
        go true e = later {r = rule 10 (¬ (length xs ≡ 20))} (λ h. h (eqb-true _ 20 e)) First.none
        go false e = here (eqb-false _ 20 e)

    full : ¬ (¬ (length xs ≡ 20)) → length xs ≡ 20
    full f = go (eqb (length xs) 20) refl
      where
        go : (b : Bool) → eqb (length xs) 20 ≡ b → length xs ≡ 20
        go true e = eqb-true _ 20 e
        go false e = absurd (f (eqb-false _ 20 e))

    load-call-number :
        first (refusal_of (loaded (settings_of formula white l c tolerance) r)) (length_fault xs).number
        ≡ (load_call xs formula white l c tolerance r).number
    unfolding load_call
    load-call-number =
        ap (λ (n : ℕ). first n (length_fault xs).number) (load-number l c tolerance r formula white)
        ∙ sym (refusal-room _ (length_fault xs).number (load-room l c tolerance r formula white))

    load_call_first :
        First (load_rules ++ (rule 10 (¬ (length xs ≡ 20)) ∷ [])) (load_call xs formula white l c tolerance r).number
    load_call_first =
        subst (First (load_rules ++ (rule 10 (¬ (length xs ≡ 20)) ∷ []))) load-call-number
        (first_then refl load_first length_first)

    pub load_by_call : LoadByCall (load_call xs formula white l c tolerance r).number xs formula white l c tolerance r
    load_by_call =
        let zero = row_zero refl load_call_first in
        let Other = ¬ (length xs ≡ 20) in
        let wrong = wrong_load formula white l c tolerance r in
        record {
          one_of = load_never_7_or_9 xs formula white l c tolerance r;
          rows =
              load-rows
              (λ k some other.
              subst (λ (n : ℕ). n ≡ k ↔ AnyOf (rows_of k [] load_rules)) load-call-number
              (row_before load_first length_first k some other));
          is_10 = row load_call_first 10 refl;
          is_0 = (
            λ e. let (h, f) = none_split Other wrong (zero.0 e) in (full f, h),
            λ h. zero.1 (none_more Other wrong h.1 (λ n. n h.0)),
          );
        }
