-- `roots::cube_root`: as of `square_root`, at the exponent 3. Assumes nothing.
use Rattle.std.proofs.Common.{◌-◌}
use Rattle.rounding.proofs.Digits.{Found}
use Rattle.rounding.proofs.roots.cube_root.Given as goal

abbrev pub invariant-loop : goal.invariant-loop
invariant-loop l = Found 2 3 l.x (l.turns - l.counter) l.root l.rest l.down
