-- A number of 64 bits shifted by 64 or more is 0. Assumes nothing.
use Rattle.std.proofs.Common.{◌≡◌, ◌/◌, ◌^◌, lt_of_lt_of_le, pow_mono}
use native.Mathlib.Nat.{div-eq_of_lt}
use Rattle.reading.proofs.float.half_up.Goals as goal

pub returns-else-k-lt64 : goal.returns-else-k-lt64
returns-else-k-lt64 c =
    let z : c.args.n / 2 ^ c.args.k ≡ 0 =
    div-eq_of_lt (lt_of_lt_of_le c.ranges.n.fits (pow_mono c.if-k-lt64.false)) in
    rw z
