-- The key, the word and the line's end are put one after the other. Assumes nothing.
use Rattle.text.proofs.Theorems.Put.Laws.{line_key, line_value, line_end, puts_line}
use Rattle.lines.proofs.words.put_word.Goals as goal

pub put-after_key-requires : goal.put-after_key-requires
put-after_key-requires g c = line_key _ _ c.requires

pub put_text-after_word-requires : goal.put_text-after_word-requires
put_text-after_word-requires g c = line_value _ _ c.requires c.put-after_key.ensures

pub put-requires : goal.put-requires
put-requires g c = line_end _ _ c.requires c.put-after_key.ensures c.put_text-after_word.ensures

pub returns : goal.returns
returns g c = puts_line _ _ c.requires c.put-after_key.ensures c.put_text-after_word.ensures c.put.ensures
