-- Where `Ok` is asked for, what is turned away is no `Ok`: it has no units. Assumes nothing.
use Rattle.std.proofs.Common.{◌≡◌, refl}
use Rattle.std.specs.Prelude.{ℤ, Ok, Err}
use Rattle.reading.specs.Reading.{Units}
use Rattle.reading.specs.declared.quantity.ReadError.TheVariants.{NotFinite, OutOfRange}
use Rattle.colour.proofs.Theorems.Placed.Ways.{NoUnits, not_finite, out_of_range}

pub no_units : (u : Units) → ((x : ℤ) → u ≡ Ok x → ⊥) → NoUnits u
no_units (Ok x) h = absurd (h x refl)
no_units (Err NotFinite) h = not_finite
no_units (Err OutOfRange) h = out_of_range
