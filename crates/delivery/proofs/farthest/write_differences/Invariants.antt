-- The loop of `farthest::write_differences`: with i cones passed the first i entries are written, and searched for the
-- farthest (`Setting`). Assumes nothing.
use Rattle.cones.specs.Cones.{colours_in}
use Rattle.delivery.specs.Delivery.{differences_from}
use Rattle.delivery.proofs.Theorems.Room.Laws.{Setting}
use Rattle.delivery.proofs.farthest.write_differences.Given as goal

abbrev pub invariant-loop-i : goal.invariant-loop-i
invariant-loop-i l =
    Setting (differences_from l.l l.c l.mean (colours_in l.white l.cones)) l.initial.entry-items l.i l.entry-items l.far
