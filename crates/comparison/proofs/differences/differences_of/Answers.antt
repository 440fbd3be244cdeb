-- `differences::differences_of` meets its contract: DL, DC and DH fit by `components-fit`. Assumes nothing.
use Rattle.std.proofs.Common.{◌≡◌, w64, to_z, of_z, rules}
use Rattle.sheet.specs.Sheet.{component, component_h}
use Rattle.sheet.proofs.Theorems.Sheet.Bounds.{components-fit}
use Rattle.comparison.proofs.differences.differences_of.Goals as goal

pub total_of-de-requires : goal.total_of-de-requires
total_of-de-requires c =
    let a = c.args in
    let h = c.requires in
    let dl : to_z w64 (of_z w64 c.component_of-dl.result) ≡ component 20 a.l a.s.SL a.z.L = search rules in
    let dc : to_z w64 (of_z w64 c.component_of-dc.result) ≡ component 20 a.c a.s.SC a.z.C = search rules in
    let dh : to_z w64 (of_z w64 c.component_h-dh.result) ≡ component_h 20 a.s.SH a.z.H = search rules in
    rw (dl, dc, dh) (components-fit h.0 h.1 h.2 h.3)
