-- `Rest::value` meets its contract: it cuts the line at its LF, and the key off the line. Assumes nothing.
use Rattle.std.proofs.Common.{sym, ◌∙◌}
use Rattle.text.specs.Bytes.Laws.{take_before}
use Rattle.text.proofs.Theorems.Bytes.Library.{strips_pointwise}
use Rattle.ticket.specs.Ticket.Laws.{value_nil_of_no_line, value_nil_of_key, key_dropped}
use Rattle.ticket.proofs.lines.Rest.value.Goals as goal

pub returns-then-self-end : goal.returns-then-self-end
returns-then-self-end c = value_nil_of_no_line _ _ c.find-end.ensures c.if-self-end.true

pub returns-in-Some : goal.returns-in-Some
returns-in-Some c =
    let f = c.find-end.ensures in
    let cut = c.in-Some.ensures.cases in
    cut.1 ∙ key_dropped _ _ f c.if-self-end.false (take_before _ _ f) (sym (strips_pointwise _ _) ∙ cut.0)

pub returns-in-None : goal.returns-in-None
returns-in-None c =
    let f = c.find-end.ensures in
    value_nil_of_key _ _ f c.if-self-end.false (take_before _ _ f) (sym (strips_pointwise _ _) ∙ c.in-None.ensures.cases)
