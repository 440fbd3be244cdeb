-- `roots::square_root`: between two turns the digits found are the root of the leading part of x, and the rest is what
-- is left of it. Assumes nothing.
use Rattle.std.proofs.Common.{◌-◌}
use Rattle.rounding.proofs.Digits.{Found}
use Rattle.rounding.proofs.roots.square_root.Given as goal

abbrev pub invariant-loop : goal.invariant-loop
invariant-loop l = Found 4 2 l.x (l.turns - l.counter) l.root l.rest l.down
