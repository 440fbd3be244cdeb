-- docs/SCOPE.md 8.2, its own words on cones in turn, by computation, under one theorem. Here an element is its own turn.
-- No proof cites this. Assumes nothing.
use Rattle.std.specs.Prelude.{◌≡◌, refl, [], ◌∷◌, ℕ, Ok, Err}
use Rattle.colour.specs.declared.refusal.Refusal.TheVariants.{NotANumber, OutOfRange, Beyond256}
use Rattle.cones.specs.InTurn.{Turn, whole, refused, in_turn_from, in_turn}

abbrev turn : Turn ℕ → Turn ℕ
turn t = t

pub record InTurnCases : Type 0 where
  -- cone 0 with 8 comes before cone 1 with 5
  pub eight_before_five : in_turn turn (Err Beyond256 ∷ Err NotANumber ∷ []) ≡ refused Beyond256 0
  -- the first refused element has its own index
  pub third : in_turn turn (Ok 0 ∷ Ok 0 ∷ Err OutOfRange ∷ Err NotANumber ∷ []) ≡ refused OutOfRange 2
  pub none_refused : in_turn turn (Ok 0 ∷ Ok 0 ∷ []) ≡ whole (0 ∷ 0 ∷ [])
  pub no_element : in_turn turn [] ≡ whole []

pub in_turn_cases : InTurnCases
unfolding in_turn_from
in_turn_cases = record { eight_before_five = refl; third = refl; none_refused = refl; no_element = refl }
