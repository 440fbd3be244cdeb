-- Below ten a number has one digit, and between 10 ^ k and the next power of ten it has k + 1. Assumes nothing.
use Rattle.std.proofs.Common.{arith}
use Rattle.text.proofs.Theorems.Decimal.Laws.{width_small, width_of_power, whole_length}
use Rattle.text.proofs.decimal.whole_len.Goals as goal

pub returns-then-n-lt10 : goal.returns-then-n-lt10
returns-then-n-lt10 c = (omega (arith, whole_length c.args.n, width_small c.args.n (omega arith)), omega arith)

pub returns-else-n-lt10 : goal.returns-else-n-lt10
returns-else-n-lt10 c =
    let n = c.args.n in
    let log = c.ilog10.ensures in
    let digits = width_of_power c.ilog10.result n (omega arith) log.power_le log.next_power_gt in
    (omega (arith, whole_length n, digits), omega arith)
