-- The mean of whole numbers, to the nearest whole number, a tie away from zero. `Mean/Laws.antt` has what callers go
-- by. Assumes nothing.
use Rattle.std.specs.Prelude.{List, [], ◌∷◌, ℕ, ℤ, pos, ◌+ℤ◌, length}
use Rattle.rounding.specs.Signed.{∣◌∣, minus}
use Rattle.rounding.specs.Nearest.{rounded}

unfoldable pub sum : List ℤ → ℤ
sum [] = pos 0
sum (z ∷ zs) = z +ℤ sum zs

-- z / n, to the nearest
abbrev pub mean_of : (z : ℤ) (n : ℕ) → ℤ
mean_of z n = rounded (minus z) ∣ z ∣ n

-- the sum over the count
abbrev pub mean : List ℤ → ℤ
mean zs = mean_of (sum zs) (length zs)
