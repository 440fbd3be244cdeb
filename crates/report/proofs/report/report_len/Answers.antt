-- The lengths of the three parts. Assumes nothing.
use Rattle.std.proofs.Common.{arith}
use Rattle.report.specs.Report.Laws.{report-length}
use Rattle.report.proofs.report.report_len.Goals as goal

pub returns : goal.returns
returns c = let whole = report-length c.args.j in omega arith
