-- What a loop over a list goes by: a law for its start, one for each way through its body, one for its end. The
-- invariant holds the values so far as a list that no variable of the code holds, and what the loop's own variables
-- are of it (Q). Assumes nothing.
use Rattle.std.specs.Prelude.{◌≡◌, refl, ℕ, suc, ◌+◌, ◌≤◌, ◌<◌, length, get_or, drop, Ok, Err}
use Rattle.std.proofs.Common.{sym, ◌∙◌, add-one, arith, drop_of_length-le, drop-cons}
use Rattle.std.proofs.Math.Path.{ap}
use mathlib.Core.List.{List, [], ◌∷◌, ◌++◌, append_assoc, append-nil}
use Rattle.std.proofs.Math.ListN.{length-append}
use Rattle.colour.specs.declared.refusal.Refusal.{Refusal}
use Rattle.cones.specs.InTurn.{Turn, Turns, whole, refused, either, after, in_turn_from, in_turn}

module _ {W : Type 0} where
  after_none : (t : Turns W) → t ≡ after [] t
  after_none (whole vs) = refl
  after_none (refused n i) = refl

  after_more : (us : List W) (v : W) (t : Turns W) → after us (after (v ∷ []) t) ≡ after (us ++ (v ∷ [])) t
  after_more us v (whole vs) = ap whole (sym (append_assoc us (v ∷ []) vs))
  after_more us v (refused n i) = refl

module _ {P W : Type 0} (turn : P → Turn W) where
  -- i elements are passed, all of them taken, and Q holds of their values; what is left decides the rest
  pub record Passed (ps : List P) (i : ℕ) (Q : List W → Type 0) : Type 0 where
    pub so_far : List W
    pub count : length so_far ≡ i
    pub within : i ≤ length ps
    pub same : in_turn turn ps ≡ after so_far (in_turn_from turn i (drop i ps))
    pub holds : Q so_far

  -- all are taken, and Q holds of their values
  pub record AllPassed (ps : List P) (Q : List W → Type 0) : Type 0 where
    pub values : List W
    pub count : length values ≡ length ps
    pub is : in_turn turn ps ≡ whole values
    pub holds : Q values

  pub passed_none : (ps : List P) {Q : List W → Type 0} → Q [] → Passed ps 0 Q
  passed_none ps h =
      record { so_far = []; count = refl; within = omega arith; same = after_none (in_turn turn ps); holds = h }

  module _ {ps : List P} {i : ℕ} {Q : List W → Type 0} (k : Passed ps i Q) where
    pub passed_all : length ps ≤ i → AllPassed ps Q
    unfolding in_turn_from
    passed_all h =
        record {
          values = k.so_far ++ [];
          count = length-append k.so_far [] ∙ omega (arith, k.count, k.within);
          is = k.same ∙ ap (λ (r : List P). after k.so_far (in_turn_from turn i r)) (drop_of_length-le ps h);
          holds = rw (append-nil k.so_far) k.holds;
        }

    module _ {p : P} (d : P) (l : i < length ps) (e : p ≡ get_or ps i d) where
      at_head : in_turn turn ps ≡ after k.so_far (in_turn_from turn i (p ∷ drop (suc i) ps))
      at_head =
          k.same
          ∙ ap (λ (r : List P). after k.so_far (in_turn_from turn i r))
          (drop-cons ps i d l ∙ ap (λ (q : P). q ∷ drop (suc i) ps) (sym e))

      abbrev going : Turn W → Turns W
      going t =
          either t (λ (v : W). after (v ∷ []) (in_turn_from turn (suc i) (drop (suc i) ps))) (λ (n : Refusal). refused n i)

      pub passed-refused : {n : Refusal} → turn p ≡ Err n → in_turn turn ps ≡ refused n i
      unfolding in_turn_from
      passed-refused g = at_head ∙ ap (λ (t : Turn W). after k.so_far (going t)) g

      pub passed_more :
          (v : W) {R : List W → Type 0} → turn p ≡ Ok v →
          ((us : List W) → length us ≡ i → Q us → R (us ++ (v ∷ []))) → Passed ps (i + 1) R
      unfolding in_turn_from
      passed_more v g f =
          record {
            so_far = k.so_far ++ (v ∷ []);
            count = length-append k.so_far (v ∷ []) ∙ ap (λ (n : ℕ). n + 1) k.count;
            within = omega arith;
            same =
                rw (add-one i)
                (at_head ∙ ap (λ (t : Turn W). after k.so_far (going t)) g
                ∙ after_more k.so_far v (in_turn_from turn (suc i) (drop (suc i) ps)));
            holds = f k.so_far k.count k.holds;
          }
