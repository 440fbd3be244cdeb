-- A colour of the grid at 20 places is the colour itself. Assumes nothing.
use Rattle.std.specs.Prelude.{◌≡◌, ℕ, suc, ℤ, pos, negsuc, neg_ℤ}
use Rattle.std.proofs.Common.{ap, one-mul}
use Rattle.rounding.specs.Signed.{∣◌∣, ◌·◌}
use Rattle.colour.specs.declared.conversion.GridColour.{GridColour}
use Rattle.colour.specs.Conversion.{Lab, at_places}

one_times : (z : ℤ) → 1 · z ≡ z
one_times (pos m) = ap pos (one-mul m)
one_times (negsuc m) = ap (λ (k : ℕ). neg_ℤ (pos k)) (one-mul (suc m))

-- its numbers of units
abbrev pub units : GridColour → Lab
units c = record { L = ∣ c.L.0 ∣; a = c.a.0; b = c.b.0 }

pub at_places_20 : (c : GridColour) → at_places 20 c ≡ units c
unfolding at_places
at_places_20 c = λ i. record { L = one-mul ∣ c.L.0 ∣ i; a = one_times c.a.0 i; b = one_times c.b.0 i }
