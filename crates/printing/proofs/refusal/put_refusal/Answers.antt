-- Five pieces, one after the other. Assumes nothing.
use Rattle.std.proofs.Common.{List, ℕ}
use Rattle.text.specs.Put.{Room}
use Rattle.text.proofs.Theorems.Put.Laws.{RoomForAll, room_for_all, room_first, room-second, room-third, room-fourth, room-rest}
use Rattle.text.proofs.Theorems.Put.Laws.{puts_more, puts_four, puts_joined}
use Rattle.printing.specs.Printed.{refusal_pieces, refusal_line}
use Rattle.printing.proofs.refusal.put_refusal.Goals as goal

-- the whole row has room
row : {dst : List ℕ} (number line : ℕ) → Room dst 0 (refusal_line number line) →
    RoomForAll dst 0 (refusal_pieces number line)
unfolding refusal_line
row number line room = room_for_all (refusal_pieces number line) room

pub put-after_refused-requires : goal.put-after_refused-requires
put-after_refused-requires c = room_first (row c.args.number c.args.line c.requires)

pub put_whole-after_number-requires : goal.put_whole-after_number-requires
put_whole-after_number-requires c =
    room-second (row c.args.number c.args.line c.requires) c.put-after_refused.ensures

pub put-after_key-requires : goal.put-after_key-requires
put-after_key-requires c =
    room-third (row c.args.number c.args.line c.requires) c.put-after_refused.ensures c.put_whole-after_number.ensures

pub put_whole-after_line-requires : goal.put_whole-after_line-requires
put_whole-after_line-requires c =
    room-fourth (row c.args.number c.args.line c.requires) c.put-after_refused.ensures c.put_whole-after_number.ensures
    c.put-after_key.ensures

pub put-requires : goal.put-requires
put-requires c =
    let rest = room-rest (row c.args.number c.args.line c.requires) c.put-after_refused.ensures in
    room-fourth rest c.put_whole-after_number.ensures c.put-after_key.ensures c.put_whole-after_line.ensures

pub returns : goal.returns
unfolding refusal_line
returns c =
    let all = row c.args.number c.args.line c.requires in
    let rest = room-rest all c.put-after_refused.ensures in
    puts_joined
    (puts_more all c.put-after_refused.ensures
    (puts_four rest c.put_whole-after_number.ensures c.put-after_key.ensures c.put_whole-after_line.ensures
    c.put.ensures))
