-- The key, what it says and the line's end are put one after the other. Assumes nothing.
use Rattle.text.proofs.Theorems.Put.Laws.{line_key, line_value, line_end, puts_line}
use Rattle.lines.proofs.words.put_line.Goals as goal

pub put-after_key-requires : goal.put-after_key-requires
put-after_key-requires c = line_key _ _ c.requires

pub put-after_value-requires : goal.put-after_value-requires
put-after_value-requires c = line_value _ _ c.requires c.put-after_key.ensures

pub put-requires : goal.put-requires
put-requires c = line_end _ _ c.requires c.put-after_key.ensures c.put-after_value.ensures

pub returns : goal.returns
returns c = puts_line _ _ c.requires c.put-after_key.ensures c.put-after_value.ensures c.put.ensures
