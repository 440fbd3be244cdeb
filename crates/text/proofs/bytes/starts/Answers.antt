-- `bytes::starts` meets its contract: the library compares as the definition does. Assumes nothing.
use Rattle.std.proofs.Common.{sym, ◌∙◌}
use Rattle.text.proofs.Theorems.Bytes.Library.{starts_pointwise}
use Rattle.text.proofs.bytes.starts.Goals as goal

pub returns : goal.returns
returns c = c.starts_with.ensures.value ∙ sym (starts_pointwise c.args.key.now c.args.s.now)
