-- The line is put where there is room for the whole of it. Assumes nothing.
use Rattle.std.proofs.Common.{arith}
use Rattle.printing.specs.Printed.Laws.{refusal-length, prints_put, prints_nothing}
use Rattle.printing.proofs.refusal.print_refusal.Goals as goal

pub returns-then-out-whole_len : goal.returns-then-out-whole_len
returns-then-out-whole_len c = prints_nothing _ _ (omega (arith, refusal-length c.args.number c.args.line))

pub put_refusal-requires : goal.put_refusal-requires
put_refusal-requires c = record { room = omega (arith, refusal-length c.args.number c.args.line) }

pub returns : goal.returns
returns c = prints_put (omega (arith, refusal-length c.args.number c.args.line)) c.put_refusal.ensures
