-- `number::signed` meets its contract: the decimal stands after the minus, if there is one. Assumes nothing.
use Rattle.std.proofs.Common.{◌∙◌}
use Rattle.text.specs.Number.Laws.{signed_is}
use Rattle.text.proofs.number.signed.Goals as goal

pub returns-in_err-millionths : goal.returns-in_err-millionths
returns-in_err-millionths c =
    c.from_residual.ensures ∙ signed_is _ _ c.without_minus-below.ensures c.decimal.ensures c.in_err-millionths.was

pub returns : goal.returns
returns c = signed_is _ _ c.without_minus-below.ensures c.decimal.ensures c.in_ok-millionths.was
