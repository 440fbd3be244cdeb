-- Five pieces, one after the other. Assumes nothing.
use Rattle.text.proofs.Theorems.Put.Laws.{room_for_all, room-rest, puts_more, puts_four, puts_joined}
use Rattle.lines.specs.Lines.Laws.{axes_pieces}
use Rattle.lines.proofs.words.put_axes.Goals as goal

pub returns : goal.returns
returns c =
    let all = room_for_all (axes_pieces c.args.name c.args.bracket) c.requires in
    let row = room-rest all c.put-after_key.ensures in
    let four =
    puts_four row c.put_text-after_name.ensures c.put-after_open.ensures c.put_text-after_bracket.ensures
    c.put.ensures in
    puts_joined (puts_more all c.put-after_key.ensures four)
