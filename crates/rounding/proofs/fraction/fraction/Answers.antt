-- `fraction::fraction` meets its contract: long division (`Long.antt`). Assumes nothing.
use Rattle.std.proofs.Common.{arith}
use Rattle.rounding.proofs.Long.{divided_next, quotient_fits, free-above}
use Rattle.rounding.proofs.fraction.fraction.Goals as goal

pub overflow_add-quotient : goal.overflow_add-quotient
overflow_add-quotient c =
    record { fits = quotient_fits c.requires (free-above c.requires) c.min-step.ensures c.loop-left.invariant }

pub loop-left-smaller : goal.loop-left-smaller
loop-left-smaller c =
    let above = free-above c.requires in
    omega (arith, above.some, c.min-step.ensures)

pub loop-left-preserved : goal.loop-left-preserved
loop-left-preserved c = divided_next c.requires (free-above c.requires) c.min-step.ensures c.loop-left.invariant
