-- A whole number of at most 2 ^ 53 is a float exactly, and no end is beyond 256. Assumes nothing.
use Rattle.std.proofs.Common.{ℕ, ◌≤◌, false, pos, arith}
use lib.Ieee.{binary64, of_int}
use lib.Ieee.Exact.{HasValue}
use lib.Ieee.Back.{round_whole}
use Rattle.reading.proofs.Theorems.Reading.Laws.{limit-le}
use Rattle.reading.proofs.float.range_end.Goals as goal

whole_exact : (n : ℕ) → n ≤ 256 → HasValue (of_int binary64 (pos n)) false n 1
unfolding of_int
whole_exact n h = round_whole binary64 false n (omega arith)

pub returns : goal.returns
returns c =
    rw (c.nearest_u64_to_f64.ensures, c.limit_of.ensures) (whole_exact _ (limit-le c.args.q c.args.below))
