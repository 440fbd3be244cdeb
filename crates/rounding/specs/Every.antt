-- What holds of every element of a list. Assumes nothing.
use Rattle.std.specs.Prelude.{List, [], ◌∷◌, ◌++◌, map, ℕ, zero, suc, ◌<◌, length, get_or}
use Rattle.std.proofs.Common.{not-suc-le-zero, le_of_suc-le-suc}

pub data Every {A : Type 0} (P : A → Type 0) : List A → Type 0 where
  none : Every P []
  more : {x : A} {xs : List A} → P x → Every P xs → Every P (x ∷ xs)

-- of element i
pub every_at :
    {A : Type 0} {P : A → Type 0} {xs : List A} → Every P xs → (i : ℕ) (d : A) → i < length xs → P (get_or xs i d)
every_at none i d l = absurd (not-suc-le-zero l)
every_at (more p ps) zero d l = p
every_at (more p ps) (suc i) d l = every_at ps i d (le_of_suc-le-suc l)

-- of each element's image
pub every_map :
    {A B : Type 0} {P : A → Type 0} {Q : B → Type 0} (f : A → B) {xs : List A} → ((x : A) → P x → Q (f x)) →
    Every P xs → Every Q (map f xs)
every_map f h none = none
every_map f h (more {x = x} p ps) = more (h x p) (every_map f h ps)

-- of one element more
pub every_more :
    {A : Type 0} {P : A → Type 0} {xs : List A} {x : A} → Every P xs → P x → Every P (xs ++ (x ∷ []))
every_more none q = more q none
every_more (more p ps) q = more p (every_more ps q)
