-- Three lists of one length as one list: element by element, by any function of three. Assumes nothing.
use Rattle.std.specs.Prelude.{◌≡◌, Bool, true, ◌&&◌, eqb, length, get_or}
use Rattle.std.proofs.Math.Path.{refl, ap}
use mathlib.Core.List.{List, [], ◌∷◌}
use Prim.Native.Nat.{ℕ, zero, suc, ◌<◌}
use Rattle.std.proofs.Common.{le_of_suc-le-suc, not-suc-le-zero, arith, eqb-true, eq-eqb}
use Rattle.colour.proofs.Theorems.Conversion.Laws.{both_true}

-- three lists of one length
pub record Even {A : Type 0} (xs ys zs : List A) : Type 0 where
  pub ys-length : length ys ≡ length xs
  pub zs-length : length zs ≡ length xs

-- the same as a test
unfoldable pub is_even : {A : Type 0} (xs ys zs : List A) → Bool
is_even xs ys zs = eqb (length ys) (length xs) && eqb (length zs) (length xs)

pub even_of_test : {A : Type 0} (xs ys zs : List A) → is_even xs ys zs ≡ true → Even xs ys zs
unfolding is_even
even_of_test xs ys zs h =
    let (p, q) = both_true (eqb (length ys) (length xs)) (eqb (length zs) (length xs)) h in
    record { ys-length = eqb-true _ _ p; zs-length = eqb-true _ _ q }

pub test_of_even : {A : Type 0} (xs ys zs : List A) → Even xs ys zs → is_even xs ys zs ≡ true
unfolding is_even
test_of_even xs ys zs h = rw (eq-eqb _ _ h.ys-length, eq-eqb _ _ h.zs-length)

module _ {A B : Type 0} (f : A → A → A → B) where
  -- f of the first of each, then f of the second of each, and so on to the end of the shortest
  unfoldable pub zip : (xs ys zs : List A) → List B
  zip [] ys zs = []
  zip (x ∷ xs) [] zs = []
  zip (x ∷ xs) (y ∷ ys) [] = []
  zip (x ∷ xs) (y ∷ ys) (z ∷ zs) = f x y z ∷ zip xs ys zs

  even-rest : {x y z : A} {xs ys zs : List A} → Even (x ∷ xs) (y ∷ ys) (z ∷ zs) → Even xs ys zs
  even-rest h = record { ys-length = omega (arith, h.ys-length); zs-length = omega (arith, h.zs-length) }

  pub zip_length : (xs ys zs : List A) → Even xs ys zs → length (zip xs ys zs) ≡ length xs
  unfolding zip
  zip_length [] ys zs h = refl
  zip_length (x ∷ xs) [] zs h = absurd (omega (arith, h.ys-length))
  zip_length (x ∷ xs) (y ∷ ys) [] h = absurd (omega (arith, h.zs-length))
  zip_length (x ∷ xs) (y ∷ ys) (z ∷ zs) h = ap suc (zip_length xs ys zs (even-rest h))

  -- element i is f of the three elements i
  pub zip_at :
      (xs ys zs : List A) (i : ℕ) (d : A) (e : B) → Even xs ys zs → i < length xs →
      f (get_or xs i d) (get_or ys i d) (get_or zs i d) ≡ get_or (zip xs ys zs) i e
  unfolding zip
  zip_at [] ys zs i d e h l = absurd (not-suc-le-zero l)
  zip_at (x ∷ xs) [] zs i d e h l = absurd (omega (arith, h.ys-length))
  zip_at (x ∷ xs) (y ∷ ys) [] i d e h l = absurd (omega (arith, h.zs-length))
  zip_at (x ∷ xs) (y ∷ ys) (z ∷ zs) zero d e h l = refl
  zip_at (x ∷ xs) (y ∷ ys) (z ∷ zs) (suc i) d e h l = zip_at xs ys zs i d e (even-rest h) (le_of_suc-le-suc l)
