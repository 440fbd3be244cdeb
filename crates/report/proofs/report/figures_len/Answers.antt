-- The lengths of the four lines, of which two may be withheld. Assumes nothing.
use Rattle.std.proofs.Common.{◌≡◌, w64, to_z, of_z, rules, arith}
use Rattle.report.specs.Report.Laws.{figures-length, figures-length-withheld}
use Rattle.report.proofs.report.figures_len.Goals as goal

pub returns-then-withheld : goal.returns-then-withheld
returns-then-withheld c =
    let d = c.args.d in
    let DL : to_z w64 (of_z w64 d.DL) ≡ d.DL = search rules in
    let dl-length = rw DL at c.signed_len.ensures in
    rw (c.if-withheld.true, figures-length-withheld d) (omega arith, omega arith)

pub returns : goal.returns
returns c =
    let d = c.args.d in
    let DL : to_z w64 (of_z w64 d.DL) ≡ d.DL = search rules in
    let DC : to_z w64 (of_z w64 d.DC) ≡ d.DC = search rules in
    let DH : to_z w64 (of_z w64 d.DH) ≡ d.DH = search rules in
    let dl-length = rw DL at c.signed_len.ensures in
    let dc-length = rw DC at c.signed_len-2.ensures in
    let dh-length = rw DH at c.signed_len-3.ensures in
    rw (c.if-withheld.false, figures-length d) (omega arith, omega arith)
