-- Four lines, one after the other, their numbers as they are shown. Assumes nothing.
use Rattle.std.proofs.Common.{◌≡◌, refl, Bool, false, List, ℕ, sym, ap, ◌∙◌, w64, to_z, of_z, rules}
use Rattle.std.specs.Prelude.{ℤ}
use Rattle.sheet.specs.declared.differences.Differences.{Differences}
use Rattle.text.specs.declared.decimal.Shown.{Shown}
use Rattle.lines.specs.Lines.{figure, signed_figure}
use Rattle.text.specs.Put.{Room, joined}
use Rattle.text.proofs.Theorems.Put.Laws.{RoomForAll, room_as, puts_as, room_for_all, room_first, room-second, room-third}
use Rattle.text.proofs.Theorems.Put.Laws.{room-fourth, puts_four, puts_joined}
use Rattle.report.specs.Report.{figure_lines}
use Rattle.report.specs.Report.Laws.{figures_shown, figures-shown}
use Rattle.report.proofs.report.put_figures.Goals as goal

-- a difference is handed on as it was read
as_read : (z : ℤ) {x : Shown} → to_z w64 (of_z w64 z) ≡ z → x ≡ signed_figure (to_z w64 (of_z w64 z)) → x ≡ signed_figure z
as_read z back e = e ∙ ap signed_figure back

-- where all four are shown
module _ (withheld : Bool) (d : Differences) {DE DL DC DH : Shown}
    (e : DE ≡ figure false d.DE) (f : DL ≡ signed_figure d.DL) (g : DC ≡ signed_figure d.DC)
    (h : DH ≡ signed_figure d.DH) where
  as_shown : joined (figure_lines withheld d) ≡ joined (figures_shown withheld DE DL DC DH)
  as_shown = ap joined (figures-shown withheld d e f g h)

  row : {dst : List ℕ} {at : ℕ} → Room dst at (joined (figure_lines withheld d)) →
      RoomForAll dst at (figures_shown withheld DE DL DC DH)
  row room = room_for_all (figures_shown withheld DE DL DC DH) (room_as as_shown room)

pub put_number-after_DE-requires : goal.put_number-after_DE-requires
put_number-after_DE-requires c =
    room_first (row c.args.withheld c.args.d c.figure_of.ensures refl refl refl c.requires)

pub put_number-after_DL-requires : goal.put_number-after_DL-requires
put_number-after_DL-requires c =
    let DL = as_read c.args.d.DL (search rules) c.signed_figure.ensures in
    room-second (row c.args.withheld c.args.d c.figure_of.ensures DL refl refl c.requires) c.put_number-after_DE.ensures

pub put_chromatic-after_DC-requires : goal.put_chromatic-after_DC-requires
put_chromatic-after_DC-requires c =
    let DL = as_read c.args.d.DL (search rules) c.signed_figure.ensures in
    let DC = as_read c.args.d.DC (search rules) c.signed_figure-2.ensures in
    room-third (row c.args.withheld c.args.d c.figure_of.ensures DL DC refl c.requires) c.put_number-after_DE.ensures
    c.put_number-after_DL.ensures

pub put_chromatic-requires : goal.put_chromatic-requires
put_chromatic-requires c =
    let DL = as_read c.args.d.DL (search rules) c.signed_figure.ensures in
    let DC = as_read c.args.d.DC (search rules) c.signed_figure-2.ensures in
    let DH = as_read c.args.d.DH (search rules) c.signed_figure-3.ensures in
    room-fourth (row c.args.withheld c.args.d c.figure_of.ensures DL DC DH c.requires) c.put_number-after_DE.ensures
    c.put_number-after_DL.ensures c.put_chromatic-after_DC.ensures

pub returns : goal.returns
returns c =
    let DL = as_read c.args.d.DL (search rules) c.signed_figure.ensures in
    let DC = as_read c.args.d.DC (search rules) c.signed_figure-2.ensures in
    let DH = as_read c.args.d.DH (search rules) c.signed_figure-3.ensures in
    puts_as (sym (as_shown c.args.withheld c.args.d c.figure_of.ensures DL DC DH))
    (puts_joined
    (puts_four (row c.args.withheld c.args.d c.figure_of.ensures DL DC DH c.requires) c.put_number-after_DE.ensures
    c.put_number-after_DL.ensures c.put_chromatic-after_DC.ensures c.put_chromatic.ensures))
