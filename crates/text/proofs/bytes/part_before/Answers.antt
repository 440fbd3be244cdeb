-- `bytes::part_before` meets its contract: `find` says where the part ends. Assumes nothing.
use Rattle.text.specs.Bytes.Laws.{take_before}
use Rattle.text.proofs.bytes.part_before.Goals as goal

pub returns : goal.returns
returns c = take_before _ _ c.find-i.ensures
