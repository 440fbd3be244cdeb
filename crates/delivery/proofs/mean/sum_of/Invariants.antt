-- The loop of `mean::sum_of` adds cones until one is refused (`SumsAre`). Assumes nothing.
use Rattle.cones.specs.Cones.{turn_in}
use Rattle.cones.proofs.Theorems.InTurn.Laws.{Passed}
use Rattle.delivery.proofs.Theorems.Sums.Laws.{SumsAre}
use Rattle.delivery.proofs.mean.sum_of.Given as goal

abbrev pub invariant-loop-i : goal.invariant-loop-i
invariant-loop-i l = Passed (turn_in l.white) l.cones l.i-counter (SumsAre l.sums)
