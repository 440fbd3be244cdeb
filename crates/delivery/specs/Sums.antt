-- Sums of L*, a* and b* over a delivery, as the code works them out. Assumes nothing.
use Rattle.std.specs.Prelude.{List, ℕ, ◌^◌, ◌≤◌, ◌<◌, ◌+ℤ◌, Result, Ok, Err}
use Rattle.rounding.specs.Mean.{sum, mean_of}
use Rattle.rounding.specs.Signed.{∣◌∣}
use Rattle.reading.specs.Grid.{grid_of}
use Rattle.colour.specs.Conversion.Ranges.{OnGrid}
use Rattle.colour.specs.declared.conversion.GridColour.{GridColour}
use Rattle.cones.specs.InTurn.{Turns, whole, refused}
use Rattle.delivery.specs.declared.mean.Sums.{Sums}
use Rattle.delivery.specs.declared.mean.RefusedCone.{RefusedCone}
use Rattle.delivery.specs.Delivery.{units_of}

-- each at most m in magnitude
pub record AtMost (m : ℕ) (s : Sums) : Type 0 where
  pub L : ∣ s.L ∣ ≤ m
  pub a : ∣ s.a ∣ ≤ m
  pub b : ∣ s.b ∣ ≤ m

-- sums of up to 256 cones, and a colour to add
pub record Adds (s : Sums) (c : GridColour) : Type 0 where
  pub sums : AtMost (2 ^ 36) s
  pub colour : OnGrid c

abbrev pub with_colour : Sums → GridColour → Sums
with_colour s c = record { L = s.L +ℤ c.L.0; a = s.a +ℤ c.a.0; b = s.b +ℤ c.b.0 }

unfoldable pub sums_of : List GridColour → Sums
sums_of cs =
    record { L = sum (units_of (λ c. c.L) cs); a = sum (units_of (λ c. c.a) cs); b = sum (units_of (λ c. c.b) cs) }

abbrev pub summed : Turns GridColour → Result Sums RefusedCone
summed (whole cs) = Ok (sums_of cs)
summed (refused e i) = Err (record { refusal = e; cone = i })

-- such sums, and how many cones they are of
pub record Shares (s : Sums) (n : ℕ) : Type 0 where
  pub some : 0 < n
  pub few : n ≤ 256
  pub sums : AtMost (2 ^ 36) s

abbrev pub mean_of_sums : Sums → (n : ℕ) → GridColour
mean_of_sums s n = record { L = grid_of (mean_of s.L n); a = grid_of (mean_of s.a n); b = grid_of (mean_of s.b n) }
