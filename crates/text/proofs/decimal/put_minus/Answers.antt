-- Where no minus is shown, nothing is put. Assumes nothing.
use Rattle.std.proofs.Common.{sym, ap}
use Rattle.text.specs.Decimal.{minus_sign}
use Rattle.text.proofs.Theorems.Put.Laws.{puts_as, puts_nil}
use Rattle.text.proofs.decimal.put_minus.Goals as goal

pub returns-else-shows : goal.returns-else-shows
returns-else-shows c = puts_as (sym (ap minus_sign c.if-shows.false)) (puts_nil _ _)
