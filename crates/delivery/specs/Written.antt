-- A list written over the start of another, the rest kept, one element a turn. Assumes nothing.
use Rattle.std.specs.Prelude.{◌≡◌, refl, List, [], ◌∷◌, ◌++◌, ℕ, suc, ◌+◌, ◌≤◌, ◌<◌, length, get_or, set, take, drop}
use Rattle.std.proofs.Common.{sym, ap, ◌∙◌, add-one, le_trans, le_of_lt, le_antisymm, arith, length-set, take_all, take-suc, drop-cons, length-take-le}
use Rattle.std.proofs.lemmas.List.{set_at}
use Rattle.std.proofs.Math.Seq.{append_snoc}

-- s from the start of d, the rest of d kept
abbrev pub written : {A : Type 0} (s d : List A) → List A
written s d = s ++ drop (length s) d

-- with i elements of s written over the start of d, the list is `now`
pub record Writing {A : Type 0} (s d : List A) (i : ℕ) (now : List A) : Type 0 where
  pub is : now ≡ take i s ++ drop i d
  pub within : i ≤ length s
  pub same_length : length now ≡ length d

module _ {A : Type 0} (s d : List A) (enough : length s ≤ length d) where
  pub writing_none : Writing s d 0 d
  writing_none = record { is = refl; within = omega arith; same_length = refl }

  module _ {i : ℕ} {now : List A} (k : Writing s d i now) where
    pub writing_all : length s ≤ i → now ≡ written s d
    writing_all h =
        let e : i ≡ length s = le_antisymm k.within h in
        k.is ∙ ap (λ (r : List A). r ++ drop i d) (take_all i s h) ∙ ap (λ (n : ℕ). s ++ drop n d) e

    pub writing_more : (v z : A) → i < length s → v ≡ get_or s i z → Writing s d (i + 1) (set now i v)
    writing_more v z l e =
        record { is = rw (add-one i) more; within = omega arith; same_length = length-set now i v ∙ k.same_length }
      where
        more : set now i v ≡ take (suc i) s ++ drop (suc i) d
        more =
            ap (λ (r : List A). set r i v)
            (k.is ∙ ap (λ (r : List A). take i s ++ r) (drop-cons d i z (le_trans l enough)))
            ∙ set_at (take i s) (get_or d i z) (drop (suc i) d) v i (length-take-le i s (le_of_lt l))
            ∙ sym (append_snoc (take i s) v (drop (suc i) d))
            ∙ ap (λ (w : A). take i s ++ (w ∷ []) ++ drop (suc i) d) e
            ∙ ap (λ (r : List A). r ++ drop (suc i) d) (sym (take-suc s i z l))
