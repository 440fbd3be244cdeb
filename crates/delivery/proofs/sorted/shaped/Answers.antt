-- `sorted::shaped` meets its contract: the tests in turn, as the definition has them (`shaped_some`). Assumes nothing.
use Rattle.std.specs.Prelude.{true, false}
use Rattle.std.proofs.Common.{sym, ◌∙◌}
use Rattle.delivery.proofs.Theorems.Sorted.Laws.{shaped_none, shaped_some}
use Rattle.delivery.proofs.sorted.shaped.Goals as goal

pub returns-in_err-cones : goal.returns-in_err-cones
returns-in_err-cones c =
    c.from_residual.ensures ∙ shaped_none c.args.space _ _ _ c.args.room c.of.ensures c.in_err-cones.was

pub returns-then-is_counted : goal.returns-then-is_counted
returns-then-is_counted c =
    shaped_some c.args.space _ _ _ c.args.room c.of.ensures true c.in_ok-cones.was c.len.ensures
    (sym c.if-is_counted.true ∙ c.is_counted.ensures)

pub returns-else-is_counted : goal.returns-else-is_counted
returns-else-is_counted c =
    shaped_some c.args.space _ _ _ c.args.room c.of.ensures false c.in_ok-cones.was c.len.ensures
    (sym c.if-is_counted.false ∙ c.is_counted.ensures)
