-- The whole number nearest to a fraction, a tie away from zero; and how far two numbers are apart. Laws are in
-- `Nearest/Laws.antt`. Assumes nothing.
use Rattle.std.specs.Prelude.{Bool, ℕ, ◌+◌, ◌-◌, ◌*◌, ◌/◌, ℤ}
use Rattle.rounding.specs.Signed.{signed}

-- the whole number nearest to a / c, a tie upwards: a / c + 1/2, rounded down
abbrev pub nearest_up : (a c : ℕ) → ℕ
nearest_up a c = (2 * a + c) / (2 * c)

-- a / c or, below zero, -a / c: its magnitude is rounded, so that a tie goes away from zero
abbrev pub rounded : (below : Bool) (a c : ℕ) → ℤ
rounded below a c = signed below (nearest_up a c)

-- how far two numbers are apart: one of the two differences stops at 0
abbrev pub apart : (x y : ℕ) → ℕ
apart x y = (x - y) + (y - x)
