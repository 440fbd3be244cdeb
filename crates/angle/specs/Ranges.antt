-- What the functions of this crate ask for: a colour whose a* and b* are up to 256 in magnitude, as those of the grid
-- are, so that its products with the table fit 64 bits. Assumes nothing.
use Rattle.std.specs.Prelude.{◌≡◌, List, ℕ, ◌*◌, ◌^◌, ◌≤◌, ℤ}
use Rattle.rounding.specs.Signed.{∣◌∣}
use Rattle.angle.specs.Table.{cosines, sines}

-- two slices hold the table
pub record IsTable (ss cs : List ℕ) : Type 0 where
  pub sine : ss ≡ sines
  pub cosine : cs ≡ cosines

-- in the first quadrant
pub record Ahead (x y : ℕ) : Type 0 where
  pub along : x ≤ 256 * 2 ^ 20
  pub beyond : y ≤ 256 * 2 ^ 20

pub record OnPlane (a b : ℤ) : Type 0 where
  pub a_range : ∣ a ∣ ≤ 256 * 2 ^ 20
  pub b_range : ∣ b ∣ ≤ 256 * 2 ^ 20
