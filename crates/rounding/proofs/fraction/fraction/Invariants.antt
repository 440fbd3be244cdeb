-- `fraction::fraction`: between two turns quotient and rest are those of the places brought down so far. A turn brings
-- at least one down, since den leaves a place free. Assumes nothing.
use Rattle.rounding.proofs.Long.{Divided}
use Rattle.rounding.proofs.fraction.fraction.Given as goal

abbrev pub invariant-loop-left : goal.invariant-loop-left
invariant-loop-left l = Divided l.num l.den l.places l.quotient l.rest l.left

abbrev pub decreases-loop-left : goal.decreases-loop-left
decreases-loop-left l = l.left
