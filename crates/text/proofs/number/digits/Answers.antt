-- `number::digits` meets its contract: too few or too many bytes make no number. Assumes nothing.
use Rattle.std.specs.Prelude.{◌≡◌, ◌&&◌, leb, length}
use Rattle.std.proofs.Common.{rules, tests, sym, ◌∙◌}
use Rattle.text.specs.Number.{digits_of}
use Rattle.text.proofs.number.digits.Goals as goal

pub returns-then-not-contains : goal.returns-then-not-contains
unfolding digits_of
returns-then-not-contains c =
    let n = length c.args.s.now in
    let e : c.contains.result ≡ leb 1 n && leb n c.args.most = search (rules, tests) in
    rw (sym e ∙ c.if-not-contains.true)

pub returns : goal.returns
unfolding digits_of
returns c =
    let n = length c.args.s.now in
    let e : c.contains.result ≡ leb 1 n && leb n c.args.most = search (rules, tests) in
    rw (sym e ∙ c.if-not-contains.false) c.value_of_digits.ensures
