-- The first axis that a turn meets, by the quarter that it begins in. Assumes nothing.
use Rattle.names.proofs.Theorems.Names.Laws.{ahead_first_quarter, ahead-second-quarter, ahead-third-quarter}
use Rattle.names.proofs.Theorems.Names.Laws.{ahead-fourth-quarter, ahead-right, behind-fourth-quarter, behind-left}
use Rattle.names.proofs.Theorems.Names.Laws.{behind_first_quarter, behind-second-quarter, behind-third-quarter}

pub ruleset quarters = (
  ahead_first_quarter,
  ahead-second-quarter,
  ahead-third-quarter,
  ahead-fourth-quarter,
  ahead-right,
  behind_first_quarter,
  behind-second-quarter,
  behind-third-quarter,
  behind-fourth-quarter,
  behind-left,
)
