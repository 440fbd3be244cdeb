-- docs/SCOPE.md 7.4: the hue angle, in whole degrees from 0 to 359. `Angle/Greatest.antt` has what `greatest` finds,
-- `Angle/Quadrants.antt` turns a colour back into the first quadrant, `Angle/Laws.antt` has what the angle means and
-- what callers go by, `Angle/Cases.antt` has figures. Assumes nothing.
use Rattle.std.specs.Prelude.{Bool, not, cond, ◌&&◌, ◌||◌, ℕ, zero, suc, ◌+◌, ◌*◌, ◌/◌, ◌%◌, leb, eqb, ltb, ℤ, pos, neg_ℤ}
use Rattle.std.specs.Int.Signed.{lt_z}
use Rattle.rounding.specs.Signed.{square, minus}
use Rattle.sheet.specs.Sheet.{cross}
use Rattle.names.specs.Names.{Direction}
use Rattle.angle.specs.Table.{cosine, sine}
pub mod Greatest
pub mod Quadrants
pub mod Laws
pub mod Cases

-- ---- directions

-- a quarter turn anticlockwise takes (x, y) to (-y, x)
abbrev pub quarter_turn : Direction → Direction
quarter_turn v = record { a = neg_ℤ v.b; b = v.a }

-- after q quarter turns
abbrev pub turned : (q : ℕ) → Direction → Direction
turned zero v = v
turned (suc q) v = quarter_turn (turned q v)

-- the table's vector of k degrees, k from 0 to 90
abbrev pub vector : (k : ℕ) → Direction
vector k = record { a = pos (cosine k); b = pos (sine k) }

-- the direction of a degree from 0 to 359: degree 90 q + k has the table's vector of k, after q quarter turns
abbrev pub direction_at : (degree : ℕ) → Direction
direction_at d = turned (d / 90) (vector (d % 90))

-- ---- the colour (a, b)

-- the quadrant that it stands in, from 0 to 3, each with the axis that it starts from. (0, 0) stands in none, and no
-- answer goes by the 3 that it has here
unfoldable pub quadrant : (a b : ℤ) → ℕ
quadrant a b =
    cond (lt_z (pos 0) a && not (minus b)) 0
    (cond (lt_z (pos 0) b && not (lt_z (pos 0) a)) 1 (cond (minus a && not (lt_z (pos 0) b)) 2 3))

-- it has reached or passed a degree: one of a quadrant before its own; or one of its own, and the cross of direction
-- and colour is not negative
unfoldable pub reached : (a b : ℤ) (degree : ℕ) → Bool
reached a b d =
    ltb (d / 90) (quadrant a b)
    || eqb (d / 90) (quadrant a b) && not (minus (cross (direction_at d).a (direction_at d).b a b))

-- ---- the angle

-- the greatest number below n of which p holds, or 0
unfoldable pub greatest : (p : ℕ → Bool) (n : ℕ) → ℕ
greatest p zero = 0
greatest p (suc n) = cond (p n) n (greatest p n)

-- the greatest of the degrees 0 to 359 that (a, b) has reached or passed, and 0 at a = b = 0
unfoldable pub hue_angle : (a b : ℤ) → ℕ
hue_angle a b = cond (eqb (square a + square b) 0) 0 (greatest (reached a b) 360)

-- ---- in the first quadrant, in whole numbers: what the code works out once it has turned a colour back

-- (x, y) has reached or passed the direction of k degrees
abbrev pub reached_ahead : (x y k : ℕ) → Bool
reached_ahead x y k = leb (sine k * x) (cosine k * y)

-- the greatest of the degrees 0 to 89 that it has reached or passed
unfoldable pub degrees_ahead : (x y : ℕ) → ℕ
degrees_ahead x y = greatest (reached_ahead x y) 90
