-- `value::reading_of` meets its contract: the two spaces part the text into three. Assumes nothing.
use Rattle.std.proofs.Common.{refl, sym, ap, ◌∙◌}
use Rattle.std.specs.Prelude.{Some}
use Rattle.ticket.specs.Ticket.Laws.{reading_is}
use Rattle.ticket.proofs.value.reading_of.Goals as goal

pub returns-in_err-x : goal.returns-in_err-x
returns-in_err-x c =
    c.from_residual.ensures
    ∙ reading_is c.args.space c.args.s.now refl c.part_before.ensures (sym c.in_err-x.was ∙ c.signed.ensures) refl refl
    refl refl

pub returns-in_err-y : goal.returns-in_err-y
returns-in_err-y c =
    c.from_residual-in_err-y.ensures
    ∙ reading_is c.args.space c.args.s.now c.part_after-t.ensures c.part_before.ensures
    (sym c.in_ok-x.was ∙ c.signed.ensures) c.part_before-2.ensures (sym c.in_err-y.was ∙ c.signed-2.ensures) refl refl

pub returns-in_err-z : goal.returns-in_err-z
returns-in_err-z c =
    c.from_residual-in_err-z.ensures
    ∙ reading_is c.args.space c.args.s.now c.part_after-t.ensures c.part_before.ensures
    (sym c.in_ok-x.was ∙ c.signed.ensures) c.part_before-2.ensures (sym c.in_ok-y.was ∙ c.signed-2.ensures)
    c.part_after.ensures (sym c.in_err-z.was ∙ c.signed-3.ensures)

pub returns : goal.returns
returns c =
    ap Some c.of.ensures
    ∙ reading_is c.args.space c.args.s.now c.part_after-t.ensures c.part_before.ensures
    (sym c.in_ok-x.was ∙ c.signed.ensures) c.part_before-2.ensures (sym c.in_ok-y.was ∙ c.signed-2.ensures)
    c.part_after.ensures (sym c.in_ok-z.was ∙ c.signed-3.ensures)
