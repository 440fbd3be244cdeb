-- The ranges of the numbers in line 7. Assumes nothing.
use Rattle.std.specs.Prelude.{ℕ, ◌^◌, ◌≤◌}

-- SC is below 8, F and T are at most 1
pub record HueParts (sc f t : ℕ) : Type 0 where
  pub SC : sc ≤ 2 ^ 23
  pub F : f ≤ 2 ^ 20
  pub T : t ≤ 2 ^ 20
