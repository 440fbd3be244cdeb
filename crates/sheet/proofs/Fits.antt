-- Products and sums of signed numbers fit, and so do the numbers of a colour. Assumes nothing.
use mathlib.Core.Path.{◌≡◌}
use Prim.Native.Nat.{◌^◌, ◌≤◌}
use native.Mathlib.Nat.{mul-le-mul}
use native.Mathlib.Omega.{arith}
use lib.IntN.{ℤ, ◌+ℤ◌, ◌-ℤ◌, ◌*ℤ◌}
use mir.Syntax.{w64}
use mir.Val.{SFits, to_z, of_z}
use mir.Facts.{to_z-of_z}
use Rattle.rounding.proofs.Theorems.Signed.Laws.{abs-add-le, abs-sub-le, abs-mul, fits_of_abs}
use Rattle.rounding.specs.Signed.{∣◌∣}
use Rattle.colour.specs.declared.conversion.GridColour.{GridColour}
use Rattle.colour.specs.Conversion.Ranges.{OnGrid}
use Rattle.sheet.specs.Ranges.{Both, Four}

pub abs-mul-le : {p q : ℤ} → Both (2 ^ 28) p q → ∣ p *ℤ q ∣ ≤ 2 ^ 56
abs-mul-le {p} {q} h = rw abs-mul (mul-le-mul h.first h.second)

pub mul-fits : {p q : ℤ} → Both (2 ^ 28) p q → SFits w64 (p *ℤ q)
mul-fits h = fits_of_abs _ (omega (arith, abs-mul-le h))

module _ {p q r s : ℤ} (h : Four (2 ^ 28) p q r s) where
  pub add-fits : SFits w64 (p *ℤ q +ℤ r *ℤ s)
  add-fits = fits_of_abs _ (omega (arith, abs-mul-le h.first, abs-mul-le h.second, abs-add-le (p *ℤ q) (r *ℤ s)))

  pub sub-fits : SFits w64 (p *ℤ q -ℤ r *ℤ s)
  sub-fits = fits_of_abs _ (omega (arith, abs-mul-le h.first, abs-mul-le h.second, abs-sub-le (p *ℤ q) (r *ℤ s)))

-- ---- a colour of the grid: its numbers come back from the machine's as they were

back : {z : ℤ} → ∣ z ∣ ≤ 2 ^ 28 → to_z w64 (of_z w64 z) ≡ z
back {z = z} h = to_z-of_z {w = w64} (fits_of_abs z (omega arith))

module _ {c : GridColour} (h : OnGrid c) where
  pub L_back : to_z w64 (of_z w64 c.L.0) ≡ c.L.0
  L_back = back (omega (arith, h.L))

  pub a_back : to_z w64 (of_z w64 c.a.0) ≡ c.a.0
  a_back = back h.a

  pub b_back : to_z w64 (of_z w64 c.b.0) ≡ c.b.0
  b_back = back h.b
