-- What a call of the ground stores and answers, over plain variables. Assumes nothing.
use Rattle.std.specs.Prelude.{◌≡◌, refl, List, [], ◌∷◌, ◌≤◌, ℤ, length, set, Option, Some, None}
use Rattle.std.proofs.Common.{arith}
use Rattle.reading.specs.Reading.{Units}
use Rattle.reading.specs.declared.quantity.Quantity.{Quantity}
use Rattle.colour.specs.Placed.{place, Reading, Placed}
use Rattle.colour.specs.declared.white.White.{White}
use Rattle.probe.specs.Ground.{Answer, answer, units_answer, placed_answer, numbered_answer}

-- nothing is stored in an empty list
pub set_none : (l : List ℤ) (v : ℤ) → length l ≤ 0 → set l 0 v ≡ l
set_none [] v h = refl
set_none (x ∷ l) v h = absurd (omega arith)

-- the units of a quantity, answered
pub units-answered :
    {q k : Quantity} {u : Units} {given : Answer} (f : Quantity → Units) (out : List ℤ) →
    q ≡ k → u ≡ f q → given ≡ units_answer u out → given ≡ units_answer (f k) out
units-answered f out e g h = cc

-- the two answers to a reading against the white of a number
pub numbered-placed :
    {m n : Option White} {w : White} {p : Placed} {given : Answer} (r : Reading) (out : List ℤ) →
    m ≡ n → m ≡ Some w → p ≡ place w r → given ≡ placed_answer p out → given ≡ numbered_answer n r out
numbered-placed r out e f g h = cc

pub numbered-unknown :
    {m n : Option White} (r : Reading) (out : List ℤ) → m ≡ n → m ≡ None → answer 2 out ≡ numbered_answer n r out
numbered-unknown r out e f = cc
