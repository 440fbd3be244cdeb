-- The four pieces of the decimal are put one after the other. Assumes nothing.
use Rattle.text.proofs.Theorems.Put.Laws.{room_for_all, room_first, room-second, room-third, room-fourth, puts_four}
use Rattle.text.proofs.Theorems.Put.Laws.{puts_joined}
use Rattle.text.specs.Decimal.{decimal_pieces, decimal_text}
use Rattle.text.proofs.decimal.put_decimal.Goals as goal

pub put_minus-after_minus-requires : goal.put_minus-after_minus-requires
unfolding decimal_text
put_minus-after_minus-requires c = room_first (room_for_all (decimal_pieces c.args.d) c.requires)

pub put_whole-after_whole-requires : goal.put_whole-after_whole-requires
unfolding decimal_text
put_whole-after_whole-requires c =
    room-second (room_for_all (decimal_pieces c.args.d) c.requires) c.put_minus-after_minus.ensures

pub put-after_point-requires : goal.put-after_point-requires
unfolding decimal_text
put-after_point-requires c =
    let row = room_for_all (decimal_pieces c.args.d) c.requires in
    room-third row c.put_minus-after_minus.ensures c.put_whole-after_whole.ensures

pub put_digits-requires : goal.put_digits-requires
unfolding decimal_text
put_digits-requires c =
    let row = room_for_all (decimal_pieces c.args.d) c.requires in
    room-fourth row c.put_minus-after_minus.ensures c.put_whole-after_whole.ensures c.put-after_point.ensures

pub returns : goal.returns
unfolding decimal_text
returns c =
    let row = room_for_all (decimal_pieces c.args.d) c.requires in
    puts_joined
    (puts_four row c.put_minus-after_minus.ensures c.put_whole-after_whole.ensures c.put-after_point.ensures
    c.put_digits.ensures)
