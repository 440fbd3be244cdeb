-- `lent::report_on` meets its contract: a refusal leaves the room, and a judgement is written as the report of it.
-- Assumes nothing.
use Rattle.std.proofs.Common.{◌∙◌}
use Rattle.colour.proofs.Theorems.Refusal.{handed-number}
use Rattle.calls.proofs.Theorems.Calls.Laws.{reported-refused, reported-judged}
use Rattle.calls.proofs.lent.report_on.Goals as goal

pub returns-in_err-o : goal.returns-in_err-o
returns-in_err-o c =
    let gives = reported-refused _ _ c.in_err-o.was in
    record { number = handed-number _ _ c.from_residual.ensures.1 ∙ gives.number; bytes = gives.bytes }

pub returns : goal.returns
returns c = reported-judged _ _ c.in_ok-o.was c.write_report.ensures.number_is c.write_report.ensures.room_is
