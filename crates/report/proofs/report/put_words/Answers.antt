-- Four lines, one after the other. Assumes nothing.
use Rattle.std.proofs.Common.{List, ℕ}
use Rattle.standard.specs.declared.judge.Judgement.{Judgement}
use Rattle.text.specs.Put.{Room, joined}
use Rattle.text.proofs.Theorems.Put.Laws.{RoomForAll, room_for_all, room_first, room-second, room-third, room-fourth}
use Rattle.text.proofs.Theorems.Put.Laws.{puts_four, puts_joined}
use Rattle.report.specs.Report.{word_lines}
use Rattle.report.proofs.report.put_words.Goals as goal

row : (j : Judgement) {dst : List ℕ} {at : ℕ} → Room dst at (joined (word_lines j)) → RoomForAll dst at (word_lines j)
row j room = room_for_all (word_lines j) room

pub put_word-after_lightness-requires : goal.put_word-after_lightness-requires
unfolding word_lines
put_word-after_lightness-requires c = room_first (row c.args.j c.requires)

pub put_word-after_chroma-requires : goal.put_word-after_chroma-requires
unfolding word_lines
put_word-after_chroma-requires c = room-second (row c.args.j c.requires) c.put_word-after_lightness.ensures

pub put_hue-after_hue-requires : goal.put_hue-after_hue-requires
unfolding word_lines
put_hue-after_hue-requires c =
    room-third (row c.args.j c.requires) c.put_word-after_lightness.ensures c.put_word-after_chroma.ensures

pub put_word-requires : goal.put_word-requires
unfolding word_lines
put_word-requires c =
    room-fourth (row c.args.j c.requires) c.put_word-after_lightness.ensures c.put_word-after_chroma.ensures
    c.put_hue-after_hue.ensures

pub returns : goal.returns
unfolding word_lines
returns c =
    puts_joined
    (puts_four (row c.args.j c.requires) c.put_word-after_lightness.ensures c.put_word-after_chroma.ensures
    c.put_hue-after_hue.ensures c.put_word.ensures)
