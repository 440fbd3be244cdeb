-- With its sign, what is shown is what the one rule of rounding makes of the number: the rule of the readings.
-- Assumes nothing.
use Rattle.std.specs.Prelude.{◌≡◌, refl, Bool, true, false, ◌&&◌, ℕ, zero, suc, ◌*◌, ◌^◌, ◌<◌, ltb}
use Rattle.std.proofs.Common.{ap, ◌∙◌, zero-lt-suc, lt-ltb}
use Rattle.rounding.specs.Nearest.{rounded}
use Rattle.rounding.specs.Signed.{signed}
use Rattle.text.specs.Decimal.{shown, shown_as}
use Rattle.text.proofs.Theorems.Decimal.Nearest.{shown_by_the_rule}

-- a minus that no digit but zeros would follow changes nothing
signed-shown : (below : Bool) (s : ℕ) → signed (below && ltb 0 s) s ≡ signed below s
signed-shown true zero = refl
signed-shown true (suc s) = rw (lt-ltb 0 (suc s) (zero-lt-suc s))
signed-shown false s = refl

-- the sign and the digits together
pub shown_as_rounded :
    (places per_one : ℕ) (below : Bool) (m : ℕ) → 0 < per_one →
    signed (shown_as places per_one below m).minus (shown_as places per_one below m).units
    ≡ rounded below (m * 10 ^ places) per_one
shown_as_rounded places per_one below m some =
    signed-shown below (shown places per_one m) ∙ ap (signed below) (shown_by_the_rule places per_one m some)
