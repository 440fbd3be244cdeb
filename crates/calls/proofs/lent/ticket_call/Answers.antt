-- `lent::ticket_call` meets its contract: it is what the parsed text comes to, reported. Assumes nothing.
use Rattle.calls.proofs.Theorems.Calls.Laws.{ticket_call_gives}
use Rattle.calls.proofs.lent.ticket_call.Goals as goal

pub returns : goal.returns
returns c = ticket_call_gives _ _ _ c.parse.ensures c.ticket_outcome.ensures c.report_on.ensures
