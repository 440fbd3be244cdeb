-- docs/SCOPE.md 10.3: DE, DL, DC AND DH ARE PRINTED TO THE NEAREST FOUR DECIMALS, a tie away from zero, and with a
-- minus only if a digit is shown that is not zero. Assumes nothing.
use Rattle.std.specs.Prelude.{◌≡◌, refl, Bool, ◌&&◌, ℕ, ◌/◌, ◌^◌, ltb, ℤ}
use Rattle.std.proofs.Common.{arith}
use Rattle.rounding.specs.Signed.{∣◌∣, minus}
use Rattle.text.proofs.Theorems.Decimal.Nearest.{ShownNearest, shown-nearest}
use Rattle.text.specs.declared.decimal.Shown.{Shown}
use Rattle.lines.specs.Lines.{figure, signed_figure}

-- d shows m units of 2 ^ -20, below zero if so it is said
pub record FigureNearest (below : Bool) (m : ℕ) (d : Shown) : Type 0 where
  pub places : d.places ≡ 4
  pub units : ShownNearest 4 (2 ^ 20) m d.units
  pub whole : d.whole ≡ d.units / 10 ^ 4
  pub sign : d.minus ≡ (below && ltb 0 d.units)

pub figure-nearest : (below : Bool) (m : ℕ) → FigureNearest below m (figure below m)
figure-nearest below m =
    record { places = refl; units = shown-nearest 4 (2 ^ 20) m (omega arith); whole = refl; sign = refl }

pub signed-figure-nearest : (z : ℤ) → FigureNearest (minus z) ∣ z ∣ (signed_figure z)
signed-figure-nearest z = figure-nearest (minus z) ∣ z ∣
