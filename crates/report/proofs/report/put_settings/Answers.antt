-- Four lines, one after the other, their numbers as they are shown. Assumes nothing.
use Rattle.std.proofs.Common.{◌≡◌, refl, List, ℕ, sym, ap}
use Rattle.sheet.specs.declared.settings.Settings.{Settings}
use Rattle.text.specs.declared.decimal.Shown.{Shown}
use Rattle.lines.specs.Lines.{thousandths}
use Rattle.text.specs.Put.{Room, joined}
use Rattle.text.proofs.Theorems.Put.Laws.{RoomForAll, room_as, puts_as, room_for_all, room_first, room-second, room-third}
use Rattle.text.proofs.Theorems.Put.Laws.{room-fourth, puts_four, puts_joined}
use Rattle.report.specs.Report.{setting_lines}
use Rattle.report.specs.Report.Laws.{settings_shown, settings-shown}
use Rattle.report.proofs.report.put_settings.Goals as goal

-- where l and c are shown
module _ (s : Settings) {l c : Shown} (el : l ≡ thousandths s.l) (ec : c ≡ thousandths s.c) where
  as_shown : joined (setting_lines s) ≡ joined (settings_shown s l c)
  as_shown = ap joined (settings-shown s el ec)

  row : {dst : List ℕ} {at : ℕ} → Room dst at (joined (setting_lines s)) → RoomForAll dst at (settings_shown s l c)
  row room = room_for_all (settings_shown s l c) (room_as as_shown room)

pub put_word-after_formula-requires : goal.put_word-after_formula-requires
put_word-after_formula-requires c = room_first (row c.args.s refl refl c.requires)

pub put_word-after_white-requires : goal.put_word-after_white-requires
put_word-after_white-requires c = room-second (row c.args.s refl refl c.requires) c.put_word-after_formula.ensures

pub put_number-after_l-requires : goal.put_number-after_l-requires
put_number-after_l-requires c =
    room-third (row c.args.s c.thousandths_of.ensures refl c.requires) c.put_word-after_formula.ensures
    c.put_word-after_white.ensures

pub put_number-requires : goal.put_number-requires
put_number-requires c =
    room-fourth (row c.args.s c.thousandths_of.ensures c.thousandths_of-2.ensures c.requires)
    c.put_word-after_formula.ensures c.put_word-after_white.ensures c.put_number-after_l.ensures

pub returns : goal.returns
returns c =
    puts_as (sym (as_shown c.args.s c.thousandths_of.ensures c.thousandths_of-2.ensures))
    (puts_joined
    (puts_four (row c.args.s c.thousandths_of.ensures c.thousandths_of-2.ensures c.requires)
    c.put_word-after_formula.ensures c.put_word-after_white.ensures c.put_number-after_l.ensures
    c.put_number.ensures))
