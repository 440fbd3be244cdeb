-- `bytes::same` meets its contract: the library compares as the definition does. Assumes nothing.
use Rattle.std.proofs.Common.{sym, ◌∙◌}
use Rattle.text.proofs.Theorems.Bytes.Library.{same_pointwise}
use Rattle.text.proofs.bytes.same.Goals as goal

pub returns : goal.returns
returns c = c.eq.ensures ∙ sym (same_pointwise c.args.s.now c.args.t.now)
