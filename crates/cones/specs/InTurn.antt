-- docs/SCOPE.md 8.2, "each cone in turn": the values of all elements of a list, or the first that is refused, with its
-- refusal and its index. Over any element and any value: what is made of a delivery is a definition over the list of
-- its values. `InTurn/Cases.antt` has the paper's own words, `InTurn/Exactly.antt` says which answer it is,
-- `InTurn/Laws.antt` has what a loop goes by. Assumes nothing.
use Rattle.std.specs.Prelude.{List, [], ◌∷◌, ◌++◌, ℕ, suc, Result, Ok, Err}
use Rattle.colour.specs.Refusal.{number_of_refusal}
use Rattle.colour.specs.declared.refusal.Refusal.{Refusal}

-- one element's turn: it is taken with a value, or refused
abbrev pub Turn : Type 0 → Type 0
Turn W = Result W Refusal

-- all turns: the values of all, or the first refusal and the index of its element
pub data Turns (W : Type 0) : Type 0 where
  whole : List W → Turns W
  refused : Refusal → (index : ℕ) → Turns W

module _ {W R : Type 0} where
  abbrev pub either : Turn W → (W → R) → (Refusal → R) → R
  either (Ok v) f g = f v
  either (Err e) f g = g e

module _ {W : Type 0} where
  -- the refusal's number, 0 for none
  abbrev pub number_of : Turns W → ℕ
  number_of (whole vs) = 0
  number_of (refused e i) = number_of_refusal e

  -- and the index of the refused element
  abbrev pub index_of : Turns W → ℕ
  index_of (whole vs) = 0
  index_of (refused e i) = i

  -- the values us before those of the rest
  abbrev pub after : List W → Turns W → Turns W
  after us (whole vs) = whole (us ++ vs)
  after us (refused e i) = refused e i

module _ {P W : Type 0} (turn : P → Turn W) where
  -- of a list whose first element has the index i
  unfoldable pub in_turn_from : (i : ℕ) → List P → Turns W
  in_turn_from i [] = whole []
  in_turn_from i (p ∷ ps) =
      either (turn p) (λ (v : W). after (v ∷ []) (in_turn_from (suc i) ps)) (λ (e : Refusal). refused e i)

  abbrev pub in_turn : List P → Turns W
  in_turn ps = in_turn_from 0 ps
