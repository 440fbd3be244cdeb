-- `number::decimal` meets its contract; three digits and six places fit. Assumes nothing.
use Rattle.std.proofs.Common.{ℕ, ◌+◌, ◌*◌, refl, sym, ap, ◌∙◌, arith}
use Rattle.std.specs.Prelude.{Some}
use Rattle.text.specs.Number.Laws.{fraction_lt_million, scaled_whole_le, decimal_is}
use Rattle.text.proofs.number.decimal.Goals as goal

pub returns-in_err-x : goal.returns-in_err-x
returns-in_err-x c =
    c.from_residual.ensures ∙ decimal_is _ _ _ c.part_before.ensures c.digits.ensures c.in_err-x.was refl refl

pub returns-in_err-y : goal.returns-in_err-y
returns-in_err-y c =
    c.from_residual-in_err-y.ensures
    ∙ decimal_is _ _ _ c.part_before.ensures c.digits.ensures c.in_ok-x.was c.fraction.ensures c.in_err-y.was

pub overflow_mul-result : goal.overflow_mul-result
overflow_mul-result c =
    omega (arith, scaled_whole_le _ _ _ c.requires (sym c.digits.ensures ∙ c.in_ok-x.was) c.power.ensures)

pub overflow_add-result : goal.overflow_add-result
overflow_add-result c =
    let e = sym c.digits.ensures ∙ c.in_ok-x.was in
    let g = sym c.fraction.ensures ∙ c.in_ok-y.was in
    omega (arith, scaled_whole_le _ _ _ c.requires e c.power.ensures, fraction_lt_million _ _ c.requires.few-places g)

pub returns : goal.returns
returns c =
    ap (λ (q : ℕ). Some (c.in_ok-x.x * q + c.in_ok-y.y)) c.power.ensures
    ∙ decimal_is _ _ _ c.part_before.ensures c.digits.ensures c.in_ok-x.was c.fraction.ensures c.in_ok-y.was
