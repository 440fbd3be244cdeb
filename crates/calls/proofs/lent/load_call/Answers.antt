-- `lent::load_call` meets its contract: one law of `Calls/Laws.antt` for each way out. Assumes nothing.
use Rattle.std.proofs.Common.{◌∙◌}
use Rattle.colour.proofs.Theorems.Refusal.{handed-number}
use Rattle.calls.proofs.Theorems.Calls.Laws.{load-call-refused, load-call-stored, load-call-other}
use Rattle.calls.proofs.lent.load_call.Goals as goal

pub returns-in_err-s : goal.returns-in_err-s
returns-in_err-s c =
    let gives = load-call-refused _ _ _ _ _ _ _ c.load_outcome.ensures c.in_err-s.was in
    record { number = handed-number _ _ c.from_residual.ensures.1 ∙ gives.number; bytes = gives.bytes }

pub returns-then-store : goal.returns-then-store
returns-then-store c =
    load-call-stored _ _ _ _ _ _ _ c.load_outcome.ensures c.in_ok-s.was c.store.ensures.0 c.store.ensures.1
    c.if-store.true

pub returns-else-store : goal.returns-else-store
returns-else-store c =
    load-call-other _ _ _ _ _ _ _ c.load_outcome.ensures c.in_ok-s.was c.store.ensures.0 c.store.ensures.1
    c.if-store.false
