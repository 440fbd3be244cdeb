-- Three parts of four lines, one after the other. Assumes nothing.
use Rattle.std.proofs.Common.{List, ℕ}
use Rattle.standard.specs.declared.judge.Judgement.{Judgement}
use Rattle.text.specs.Put.{Room}
use Rattle.text.proofs.Theorems.Put.Laws.{RoomForAll, room_for_all, room_first, room-second, room-third, puts_three}
use Rattle.report.specs.Report.{report_parts, report_text}
use Rattle.report.proofs.report.write_lines.Goals as goal

row : {dst : List ℕ} (j : Judgement) → Room dst 0 (report_text j) → RoomForAll dst 0 (report_parts j)
unfolding report_text
row j room = room_for_all (report_parts j) room

pub put_settings-after_settings-requires : goal.put_settings-after_settings-requires
put_settings-after_settings-requires c = room_first (row c.args.j c.requires)

pub put_figures-after_figures-requires : goal.put_figures-after_figures-requires
put_figures-after_figures-requires c = room-second (row c.args.j c.requires) c.put_settings-after_settings.ensures

pub put_words-requires : goal.put_words-requires
put_words-requires c =
    room-third (row c.args.j c.requires) c.put_settings-after_settings.ensures c.put_figures-after_figures.ensures

pub returns : goal.returns
unfolding report_text
returns c =
    (puts_three (row c.args.j c.requires) c.put_settings-after_settings.ensures c.put_figures-after_figures.ensures
    c.put_words.ensures).bytes
