-- docs/SCOPE.md 8.2: the one order in which a call's faults are looked for. A call lists the faults that it can have,
-- each at its place; the number of every call is `refusal` of its list. Assumes nothing.
use Rattle.std.specs.Prelude.{Bool, cond, List, [], ◌∷◌, map, ℕ, eqb}

-- where a fault can be
pub data Place : Type 0 where
  at_text at_station at_count at_formula at_white at_l at_c at_tolerance at_reference at_test at_room : Place
  deriving Discrete as place-discrete

-- THE ONE ORDER: 7, 9, 11, 1, 2, 3 for l, 3 for c, 4, the reference's 5, 6 or 8, the test specimen's 5, 6 or 8 or
-- that of the first refused cone, 10
abbrev pub order : List Place
order =
    at_text ∷ at_station ∷ at_count ∷ at_formula ∷ at_white ∷ at_l ∷ at_c ∷ at_tolerance ∷ at_reference ∷ at_test ∷ at_room ∷ []

-- a refusal's number, or 0 where there is no fault
pub record Fault : Type 0 where
  pub place : Place
  pub number : ℕ

-- number n where the fault is there
abbrev pub fault : Place → (n : ℕ) (there : Bool) → Fault
fault p n there = record { place = p; number = cond there n 0 }

abbrev pub either : {A : Type 0} → Dec A → (n m : ℕ) → ℕ
either (yes e) n m = n
either (no e) n m = m

-- what stands at a place of the list, 0 if nothing does
unfoldable pub number_at : List Fault → Place → ℕ
number_at [] p = 0
number_at (f ∷ fs) p = either (place-discrete p f.place) f.number (number_at fs p)

-- the first of two numbers that is not 0, or 0
abbrev pub first : (n m : ℕ) → ℕ
first n m = cond (eqb n 0) m n

unfoldable pub first_of : List ℕ → ℕ
first_of [] = 0
first_of (n ∷ ns) = first n (first_of ns)

unfoldable pub refusal : List Fault → ℕ
refusal fs = first_of (map (number_at fs) order)
