-- The lengths of the four lines. Assumes nothing.
use Rattle.std.proofs.Common.{arith}
use Rattle.report.specs.Report.Laws.{words-length}
use Rattle.report.proofs.report.words_len.Goals as goal

pub returns : goal.returns
returns c = let whole = words-length c.args.j in (omega arith, omega arith)
