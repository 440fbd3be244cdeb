-- The ranges that the functions inside this crate ask for, and the grid's own. Assumes nothing.
use Rattle.std.specs.Prelude.{false, ◌≡◌, ℕ, ◌*◌, ◌^◌, ◌≤◌, ◌<◌, ℤ}
use Rattle.rounding.specs.Signed.{∣◌∣, minus}
use Rattle.colour.specs.declared.white.TristimulusValues.{TristimulusValues}
use Rattle.colour.specs.declared.conversion.GridColour.{GridColour}

-- X, Y or Z up to 150 against its white, in millionths: no white of Table 1 is below 94 or above 119
pub record Against (x w : ℕ) : Type 0 where
  pub value : x ≤ 150000000
  pub low : 94000000 ≤ w
  pub high : w ≤ 119000000

-- the three of a specimen against a white's
pub record Measured (c white : TristimulusValues) : Type 0 where
  pub X : Against c.X white.X
  pub Y : Against c.Y white.Y
  pub Z : Against c.Z white.Z

-- k times the difference of two f
pub record Opposed (k : ℤ) (p q : ℕ) : Type 0 where
  pub times : ∣ k ∣ ≤ 500
  pub first : p < 2 ^ 21
  pub second : q < 2 ^ 21

-- a colour that the station accepts: L* from 0 to 120, a* and b* up to 256 in magnitude
pub record OnGrid (c : GridColour) : Type 0 where
  pub not_below : minus c.L.0 ≡ false
  pub L : ∣ c.L.0 ∣ ≤ 120 * 2 ^ 20
  pub a : ∣ c.a.0 ∣ ≤ 256 * 2 ^ 20
  pub b : ∣ c.b.0 ∣ ≤ 256 * 2 ^ 20
