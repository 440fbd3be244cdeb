-- What a loop over a list goes by, and that the index is the first of the greatest. Assumes nothing.
use Rattle.std.specs.Prelude.{◌≡◌, Bool, cond, ◌⊎◌, List, [], ◌∷◌, ◌++◌, ℕ, zero, suc, ◌+◌, ◌≤◌, ◌<◌, get_or, drop}
use Rattle.std.proofs.Math.Path.{refl, sym, ap}
use Rattle.std.proofs.Common.{◌∙◌, subst, inl, inr, append_assoc, append-nil, le_refl, not-suc-le-zero, eq-or-lt_of_le, le_of_suc-le-suc, add-one, arith, drop_of_length-le, length-append, drop-cons}
use Rattle.std.proofs.Math.Bool.{true, false}
use borrow.Author.Tests.{ltb-true, ltb-false}
use Rattle.std.proofs.Math.Dec.{ltb}
use Rattle.std.proofs.Math.ListN.{length, get_or-append}
use Rattle.std.proofs.Math.Seq.{get_or-append_seam}
use Rattle.delivery.specs.declared.farthest.Far.{Far}
use Rattle.delivery.specs.Farthest.{farther_of, farthest_from, nothing_yet, farthest}

-- ---- the loop: with i numbers passed, what is left and f decide
pub record Searching (ds : List ℕ) (i : ℕ) (f : Far) : Type 0 where
  pub same : farthest ds ≡ farthest_from f i (drop i ds)

module _ (ds : List ℕ) where
  pub searching_none : Searching ds 0 nothing_yet
  searching_none = record { same = refl }

  pub searching_all : {i : ℕ} {f : Far} → Searching ds i f → length ds ≤ i → f ≡ farthest ds
  unfolding farthest_from
  searching_all {i} {f} k h = sym (k.same ∙ ap (farthest_from f i) (drop_of_length-le ds h))

  pub searching_more :
      {i : ℕ} {f g : Far} {d : ℕ} (z : ℕ) → Searching ds i f → i < length ds → d ≡ get_or ds i z →
      g ≡ farther_of f d i → Searching ds (i + 1) g
  unfolding farthest_from
  searching_more {i} {f} z k l e eg =
      record { same = rw (add-one i, eg, e) (k.same ∙ ap (farthest_from f i) (drop-cons ds i z l)) }

-- ---- the first of the greatest
pub record IsFarthest (ds : List ℕ) (f : Far) : Type 0 where
  pub within : f.at < length ds
  pub is : get_or ds f.at 0 ≡ f.most
  pub greatest : (j : ℕ) → j < length ds → get_or ds j 0 ≤ f.most
  pub first : (j : ℕ) → j < f.at → get_or ds j 0 < f.most

-- one number more
module _ (us : List ℕ) (d : ℕ) where
  abbrev more : List ℕ
  more = us ++ (d ∷ [])

  more_length : length more ≡ length us + 1
  more_length = length-append us (d ∷ [])

  more_last : get_or more (length us) 0 ≡ d
  more_last = get_or-append_seam us d [] 0

  -- what holds of the numbers before and of the last
  more_all :
      (m : ℕ) → ((j : ℕ) → j < length us → get_or us j 0 ≤ m) → d ≤ m → (j : ℕ) → j < length more → get_or more j 0 ≤ m
  more_all m h g j l =
      go (eq-or-lt_of_le (le_of_suc-le-suc (subst (λ (n : ℕ). j < n) (more_length ∙ add-one (length us)) l)))
    where
      go : (j ≡ length us) ⊎ (j < length us) → get_or more j 0 ≤ m
      go (inl e) = rw (e, more_last) g
      go (inr k) = rw (get_or-append us (d ∷ []) 0 j k) (h j k)

  farther_is : (f : Far) → IsFarthest us f → IsFarthest more (farther_of f d (length us))
  unfolding farther_of
  farther_is f h = go (ltb f.most d) refl
    where
      go : (t : Bool) → ltb f.most d ≡ t → IsFarthest more (cond t (record { most = d; at = length us }) f)
      go true e =
          let l = ltb-true f.most d e in
          record {
            within = omega (arith, more_length);
            is = more_last;
            greatest = more_all d (λ j k. omega (arith, h.greatest j k)) (le_refl d);
            first = λ j k. rw (get_or-append us (d ∷ []) 0 j k) (omega (arith, h.greatest j k));
          }
      go false e =
          record {
            within = omega (arith, more_length, h.within);
            is = get_or-append us (d ∷ []) 0 f.at h.within ∙ h.is;
            greatest = more_all f.most h.greatest (ltb-false f.most d e);
            first = λ j k. rw (get_or-append us (d ∷ []) 0 j (omega (arith, h.within))) (h.first j k);
          }

-- the first number is the greatest of itself, also where it is 0
first_at_most : (d m j : ℕ) → d ≤ m → j < 1 → get_or (d ∷ []) j 0 ≤ m
first_at_most d m zero h l = h
first_at_most d m (suc j) h l = absurd (not-suc-le-zero (le_of_suc-le-suc l))

first_is : (d : ℕ) → IsFarthest (d ∷ []) (farther_of nothing_yet d 0)
unfolding farther_of
first_is d = go (ltb 0 d) refl
  where
    go : (t : Bool) → ltb 0 d ≡ t → IsFarthest (d ∷ []) (cond t (record { most = d; at = 0 }) nothing_yet)
    go true g =
        record {
          within = omega arith;
          is = refl;
          greatest = λ j l. first_at_most d d j (le_refl d) l;
          first = λ j l. absurd (not-suc-le-zero l);
        }
    go false g =
        let none : d ≡ 0 = omega (arith, ltb-false 0 d g) in
        record {
          within = omega arith;
          is = none;
          greatest = λ j l. first_at_most d 0 j (ltb-false 0 d g) l;
          first = λ j l. absurd (not-suc-le-zero l);
        }

from_is : (us ds : List ℕ) (f : Far) → IsFarthest us f → IsFarthest (us ++ ds) (farthest_from f (length us) ds)
unfolding farthest_from
from_is us [] f h = rw (append-nil us) h
from_is us (d ∷ ds) f h =
    let next = from_is (us ++ (d ∷ [])) ds (farther_of f d (length us)) (farther_is us d f h) in
    rw (append_assoc us (d ∷ []) ds, more_length us d, add-one (length us)) at next

-- THE GREATEST, AND THE FIRST THAT IS
pub farthest_is : (ds : List ℕ) → 0 < length ds → IsFarthest ds (farthest ds)
unfolding farthest_from
farthest_is [] h = absurd (not-suc-le-zero h)
farthest_is (d ∷ ds) h = from_is (d ∷ []) ds (farther_of nothing_yet d 0) (first_is d)
