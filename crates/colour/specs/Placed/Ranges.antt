-- The range that placing X, Y, Z asks for. Assumes nothing.
use Rattle.std.specs.Prelude.{◌≡◌, ◌≤◌, ℤ, Ok}
use Rattle.rounding.specs.Signed.{∣◌∣}
use Rattle.reading.specs.Reading.{Units}

-- three numbers of millionths, each at most 150
pub record Millionths (x y z : ℤ) : Type 0 where
  pub X : ∣ x ∣ ≤ 150000000
  pub Y : ∣ y ∣ ≤ 150000000
  pub Z : ∣ z ∣ ≤ 150000000

-- such are the units of three readings, where they have them
pub record XyzWithin (u v w : Units) : Type 0 where
  pub within : (x y z : ℤ) → u ≡ Ok x → v ≡ Ok y → w ≡ Ok z → Millionths x y z
