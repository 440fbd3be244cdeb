-- What callers use of the order: the first of a list of numbers, by parts of the list; that a lent slice's fault comes
-- last; and that what holds of 0 and of each fault's number holds of the number given. Assumes nothing.
use Rattle.std.specs.Prelude.{◌≡◌, refl, Bool, true, false, cond, ℕ, eqb}
use Rattle.std.proofs.Common.{sym, ap, ◌∙◌, eqb-true, ne_eqb}
use mathlib.Core.List.{List, [], ◌∷◌, ◌++◌, map}
use Rattle.std.proofs.lemmas.Bool.{eqb-false}
use Rattle.standard.specs.Refusals.{Place, at_text, at_station, at_count, at_formula, at_white, at_l, at_c}
use Rattle.standard.specs.Refusals.{at_tolerance, at_reference, at_test, at_room}
use Rattle.standard.specs.Refusals.{place-discrete, order, Fault, either, number_at, first, first_of, refusal}

-- ---- the first of two, and of a list

pub first_zero : (n : ℕ) → first n 0 ≡ n
first_zero n = go (eqb n 0) refl
  where
    go : (b : Bool) → eqb n 0 ≡ b → cond b 0 n ≡ n
    go true e = sym (eqb-true n 0 e)
    go false e = refl

pub first_some : {n : ℕ} (m : ℕ) → (n ≡ 0 → ⊥) → first n m ≡ n
first_some {n} m h = rw (ne_eqb n 0 h)

pub first_none : (n m : ℕ) → first n m ≡ 0 → (n ≡ 0) × (m ≡ 0)
first_none n m = go (eqb n 0) refl
  where
    go : (b : Bool) → eqb n 0 ≡ b → cond b m n ≡ 0 → (n ≡ 0) × (m ≡ 0)
    go true e h = (eqb-true n 0 e, h)
    go false e h = absurd (eqb-false n 0 e h)

-- of two lists, one after the other
pub first_of-append : (ms ns : List ℕ) → first_of (ms ++ ns) ≡ first (first_of ms) (first_of ns)
unfolding first_of
first_of-append [] ns = refl
first_of-append (m ∷ ms) ns = go (eqb m 0) refl (first_of-append ms ns)
  where
    go :
        (b : Bool) → eqb m 0 ≡ b → first_of (ms ++ ns) ≡ first (first_of ms) (first_of ns) →
        cond b (first_of (ms ++ ns)) m ≡ first (cond b (first_of ms) m) (first_of ns)
    go true e rest = rest
    go false e rest = rw e

-- ---- the order

-- the order of SCOPE 8.2, whatever order the faults are listed in
pub in_order :
    (text station count formula white l c tolerance reference test room : ℕ) →
    refusal
    (record { place = at_room; number = room } ∷ record { place = at_test; number = test }
    ∷ record { place = at_reference; number = reference }
    ∷ record { place = at_tolerance; number = tolerance } ∷ record { place = at_c; number = c }
    ∷ record { place = at_l; number = l }
    ∷ record { place = at_white; number = white } ∷ record { place = at_formula; number = formula }
    ∷ record { place = at_count; number = count } ∷ record { place = at_station; number = station }
    ∷ record { place = at_text; number = text } ∷ [])
    ≡ first_of (text ∷ station ∷ count ∷ formula ∷ white ∷ l ∷ c ∷ tolerance ∷ reference ∷ test ∷ room ∷ [])
unfolding refusal number_at
in_order text station count formula white l c tolerance reference test room = refl

-- a lent slice's fault comes after all others of its list
pub refusal-room :
    (fs : List Fault) (n : ℕ) → number_at fs at_room ≡ 0 → refusal (record { place = at_room; number = n } ∷ fs)
    ≡ first (refusal fs) n
unfolding refusal number_at first_of
refusal-room fs n none =
    let others : List ℕ =
    map (number_at fs)
    (at_text ∷ at_station ∷ at_count ∷ at_formula ∷ at_white ∷ at_l ∷ at_c ∷ at_tolerance ∷ at_reference ∷ at_test ∷ []) in
    let without : refusal fs ≡ first_of others =
    first_of-append others (number_at fs at_room ∷ []) ∙ ap (first (first_of others)) (first_zero _ ∙ none)
    ∙ first_zero (first_of others) in
    first_of-append others (n ∷ []) ∙ ap (first (first_of others)) (first_zero n)
    ∙ ap (λ (m : ℕ). first m n) (sym without)

-- ---- what every number is

-- what holds of 0 and of every number of the list holds of the number that is given
pub data Each (Q : ℕ → Type 0) : List Fault → Type 0 where
  none : Each Q []
  more : {f : Fault} {fs : List Fault} → Q f.number → Each Q fs → Each Q (f ∷ fs)

module _ (Q : ℕ → Type 0) (zero : Q 0) where
  number_keeps : {fs : List Fault} → Each Q fs → (p : Place) → Q (number_at fs p)
  unfolding number_at
  number_keeps none p = zero
  number_keeps (more {f} {fs} q qs) p = go (place-discrete p f.place) (number_keeps qs p)
    where
      go : {A : Type 0} (d : Dec A) → Q (number_at fs p) → Q (either d f.number (number_at fs p))
      go (yes e) rest = q
      go (no e) rest = rest

  first_keeps : {n m : ℕ} → Q n → Q m → Q (first n m)
  first_keeps {n} {m} p q = go (eqb n 0)
    where
      go : (b : Bool) → Q (cond b m n)
      go true = q
      go false = p

  places_keep : {fs : List Fault} → Each Q fs → (ps : List Place) → Q (first_of (map (number_at fs) ps))
  unfolding first_of
  places_keep qs [] = zero
  places_keep qs (p ∷ ps) = first_keeps (number_keeps qs p) (places_keep qs ps)

  pub refusal_keeps : {fs : List Fault} → Each Q fs → Q (refusal fs)
  unfolding refusal
  refusal_keeps qs = places_keep qs order
