-- `bytes::part_after` meets its contract: `find` says where the part starts, if b stands there at all. Assumes nothing.
use Rattle.text.specs.Bytes.Laws.{drop-after, nothing-after}
use Rattle.text.proofs.bytes.part_after.Goals as goal

pub returns-then-i-s : goal.returns-then-i-s
returns-then-i-s c = drop-after _ _ c.find-i.ensures

pub returns-else-i-s : goal.returns-else-i-s
returns-else-i-s c = nothing-after _ _ c.find-i.ensures c.if-i-s.false
