-- The key, the decimal and the line's end are put one after the other. Assumes nothing.
use Rattle.text.proofs.Theorems.Put.Laws.{line_key, line_value, line_end, puts_line}
use Rattle.lines.proofs.numbers.put_number.Goals as goal

pub put-after_key-requires : goal.put-after_key-requires
put-after_key-requires c = line_key _ _ c.requires

pub put_decimal-after_number-requires : goal.put_decimal-after_number-requires
put_decimal-after_number-requires c = line_value _ _ c.requires c.put-after_key.ensures

pub put-requires : goal.put-requires
put-requires c = line_end _ _ c.requires c.put-after_key.ensures c.put_decimal-after_number.ensures

pub returns : goal.returns
returns c = puts_line _ _ c.requires c.put-after_key.ensures c.put_decimal-after_number.ensures c.put.ensures
