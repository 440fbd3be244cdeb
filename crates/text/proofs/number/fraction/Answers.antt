-- `number::fraction` meets its contract: its digits are few, and moved up to the last place they stay small.
-- Assumes nothing.
use Rattle.std.proofs.Common.{ℕ, ◌*◌, sym, ap, ◌∙◌, arith}
use Rattle.std.specs.Prelude.{Some}
use Rattle.text.specs.Number.Laws.{digits_lt, moved-lt, fraction-zero, fraction_is}
use Rattle.text.proofs.number.fraction.Goals as goal

pub returns-then-find-s : goal.returns-then-find-s
returns-then-find-s c = fraction-zero _ _ c.find.ensures (omega arith)

pub returns-in_err-d : goal.returns-in_err-d
returns-in_err-d c =
    c.from_residual.ensures
    ∙ fraction_is _ _ c.find.ensures (omega arith) c.part_after-t.ensures c.digits.ensures c.in_err-d.was

pub overflow_sub-places : goal.overflow_sub-places
overflow_sub-places c = (digits_lt _ _ (sym c.digits.ensures ∙ c.in_ok-d.was)).few

pub overflow_mul-result : goal.overflow_mul-result
overflow_mul-result c =
    omega (arith, moved-lt _ _ c.requires (sym c.digits.ensures ∙ c.in_ok-d.was) c.power.ensures)

pub returns : goal.returns
returns c =
    ap (λ (q : ℕ). Some (c.in_ok-d.d * q)) c.power.ensures
    ∙ fraction_is _ _ c.find.ensures (omega arith) c.part_after-t.ensures c.digits.ensures c.in_ok-d.was
