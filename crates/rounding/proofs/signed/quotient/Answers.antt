-- `signed::quotient` meets its contract: k z / d has the magnitude k |z| / d and the sign of z (`quotient_is`).
-- Assumes nothing.
use Rattle.std.proofs.Common.{◌≡◌, sym, ◌∙◌, rules, to_z, of_z, w64}
use Rattle.std.proofs.Math.Facts.{to_z-of_z}
use Rattle.rounding.proofs.Theorems.Signed.Laws.{quotient_is}
use Rattle.rounding.proofs.signed.quotient.Goals as goal

pub returns : goal.returns
returns c =
    let back : to_z w64 (of_z w64 c.with_sign.result) ≡ c.with_sign.result = search rules in
    let size = rw (to_z-of_z c.ranges.z) at c.magnitude.ensures in
    back ∙ c.with_sign.ensures
    ∙ rw (to_z-of_z c.ranges.z, size) (sym (quotient_is c.args.k c.args.d c.args.z c.requires.0))
