-- `names::is_achromatic` meets its contract: past 4 either square alone is above 16, which is 17592186044416 in units
-- of 2^-40. Assumes nothing.
use Rattle.std.proofs.Common.{◌≡◌, ◌⊎◌, false, ℕ, ◌+◌, ◌*◌, ◌<◌, ◌≤◌, inl, inr, arith, rules}
use Rattle.std.proofs.Math.Nat.{mul-le-mul}
use Rattle.std.specs.Prelude.{leb}
use Rattle.rounding.specs.Signed.{∣◌∣}
use borrow.Author.Tests.{lt-leb}
use Rattle.names.specs.Names.{achromatic}
use Rattle.names.proofs.is_achromatic.Goals as goal

past_4 : (x y : ℕ) → ((x ≤ 4194304) × (4194304 < y)) ⊎ (4194304 < x) → leb (x * x + y * y) 17592186044416 ≡ false
past_4 x y (inl (_, h)) = lt-leb (x * x + y * y) 17592186044416 (omega (arith, mul-le-mul h h))
past_4 x y (inr h) = lt-leb (x * x + y * y) 17592186044416 (omega (arith, mul-le-mul h h))

pub returns-else-b-le-FOUR : goal.returns-else-b-le-FOUR
unfolding achromatic
returns-else-b-le-FOUR c =
    let a : c.magnitude-a.result ≡ ∣ c.args.x.a.0 ∣ = search rules in
    let b : c.magnitude-b.result ≡ ∣ c.args.x.b.0 ∣ = search rules in
    let far = rw (a, b) at (past_4 c.magnitude-a.result c.magnitude-b.result c.if-b-le-FOUR.either) in
    rw far (search rules)
