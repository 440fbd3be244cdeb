-- The library strips the minus where the text starts with it. Assumes nothing.
use Rattle.std.proofs.Common.{refl, sym, ◌∙◌}
use Rattle.text.specs.Ascii.{ascii}
use Rattle.text.proofs.Theorems.Bytes.Library.{strips_pointwise}
use Rattle.text.proofs.number.without_minus.Goals as goal

pub returns-in-Some : goal.returns-in-Some
returns-in-Some c =
    let same = sym (strips_pointwise (ascii "-") c.args.s.now) in
    record { sign = same ∙ c.in-Some.ensures.cases.0; rest = c.in-Some.ensures.cases.1 }

pub returns-in-None : goal.returns-in-None
returns-in-None c =
    let same = sym (strips_pointwise (ascii "-") c.args.s.now) in
    record { sign = same ∙ c.in-None.ensures.cases; rest = refl }
