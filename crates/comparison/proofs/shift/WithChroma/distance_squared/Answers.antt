-- `WithChroma::distance_squared` meets its contract: it is the sum that line 1 names. Assumes nothing.
use Rattle.std.proofs.Common.{rules}
use Rattle.sheet.specs.Sheet.{distance²}
use Rattle.comparison.proofs.shift.WithChroma.distance_squared.Goals as goal

pub returns : goal.returns
unfolding distance²
returns c = search rules
