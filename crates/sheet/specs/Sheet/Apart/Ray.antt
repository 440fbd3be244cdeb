-- By what `proofs/Theorems/Sheet/Apart/Ray.antt` speaks. Assumes nothing.
use Rattle.std.specs.Prelude.{ℕ, ◌+◌, ◌*◌, ◌≤◌, ◌<◌}

-- the root of x² + y², rounded down, is r
pub record Rooted (r x y : ℕ) : Type 0 where
  pub low : r * r ≤ x * x + y * y
  pub high : x * x + y * y < (r + 1) * (r + 1)
