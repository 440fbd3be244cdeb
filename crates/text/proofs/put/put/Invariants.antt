-- After j turns dst is what it was with the first j bytes of src pasted in. Assumes nothing.
use Rattle.std.proofs.Common.{◌≡◌}
use Rattle.std.proofs.Math.Seq.{paste}
use Rattle.text.proofs.put.put.Given as goal

abbrev pub invariant-loop-j : goal.invariant-loop-j
invariant-loop-j l = record { done : l.dst ≡ paste l.fn.dst l.at l.src l.j }
