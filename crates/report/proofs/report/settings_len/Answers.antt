-- The lengths of the four lines. Assumes nothing.
use Rattle.std.proofs.Common.{arith}
use Rattle.report.specs.Report.Laws.{settings-length}
use Rattle.report.proofs.report.settings_len.Goals as goal

pub returns : goal.returns
returns c = let whole = settings-length c.args.s in (omega arith, omega arith)
