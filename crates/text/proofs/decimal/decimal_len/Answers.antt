-- The lengths of the four pieces, with a minus and without. Assumes nothing.
use Rattle.std.proofs.Common.{ap, arith, length}
use Rattle.text.specs.Decimal.{minus_sign}
use Rattle.text.proofs.Theorems.Decimal.Laws.{decimal-length, whole_length}
use Rattle.text.proofs.decimal.decimal_len.Goals as goal

pub returns-then-d : goal.returns-then-d
returns-then-d c =
    let sign = ap (λ b. length (minus_sign b)) c.if-d.true in
    let whole = decimal-length c.args.d in
    let digits = whole_length c.args.d.whole in
    (omega arith, omega arith)

pub returns-else-d : goal.returns-else-d
returns-else-d c =
    let sign = ap (λ b. length (minus_sign b)) c.if-d.false in
    let whole = decimal-length c.args.d in
    let digits = whole_length c.args.d.whole in
    (omega arith, omega arith)
