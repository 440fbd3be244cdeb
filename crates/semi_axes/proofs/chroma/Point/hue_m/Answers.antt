-- `Point::hue_m` meets its contract: |a| and |b| are at most C (`hue_m-le`). Assumes nothing.
use Rattle.std.proofs.Common.{◌≡◌, true, false, ◌+ℤ◌, ◌-ℤ◌, rules}
use Rattle.rounding.specs.Signed.{∣◌∣, ◌·◌}
use Rattle.sheet.specs.Sheet.{hue_m}
use Rattle.sheet.proofs.Theorems.Sheet.Laws.{hue_m-le}
use Rattle.semi_axes.proofs.chroma.Point.hue_m.Goals as goal

pub returns-then-second-clause-most : goal.returns-then-second-clause-most
unfolding hue_m
returns-then-second-clause-most c =
    let p = c.args.self in
    let is : c.magnitude.result ≡ ∣ 97814760 · p.a +ℤ 20791169 · p.b ∣ = search rules in
    rw (is, p.is_chroma) (hue_m-le true p.a p.b)

pub returns-else-second-clause-most : goal.returns-else-second-clause-most
unfolding hue_m
returns-else-second-clause-most c =
    let p = c.args.self in
    let is : c.magnitude-else-second.result ≡ ∣ 81915204 · p.a -ℤ 57357644 · p.b ∣ = search rules in
    rw (is, p.is_chroma) (hue_m-le false p.a p.b)
