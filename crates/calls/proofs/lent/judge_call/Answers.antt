-- `lent::judge_call` meets its contract: it is what the slice's station comes to, reported. Assumes nothing.
use Rattle.calls.proofs.Theorems.Calls.Laws.{judge_call_gives}
use Rattle.calls.proofs.Theorems.Runs.Laws.{judged-after}
use Rattle.calls.proofs.lent.judge_call.Goals as goal

pub returns-clause-gives : goal.returns-clause-gives
returns-clause-gives c = judge_call_gives _ _ _ _ c.judge_outcome.ensures c.report_on.ensures

pub returns-clause-run : goal.returns-clause-run
returns-clause-run c =
    judged-after _ _ _ _ (judge_call_gives _ _ _ _ c.judge_outcome.ensures c.report_on.ensures)
