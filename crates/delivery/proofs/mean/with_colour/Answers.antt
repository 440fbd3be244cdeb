-- `mean::with_colour` meets its contract: each sum fits (`adds_is`). Assumes nothing.
use Prim.Native.Nat.{◌*◌, ◌^◌, ◌≤◌}
use Rattle.std.proofs.Common.{arith}
use Rattle.rounding.specs.Signed.{∣◌∣}
use Rattle.delivery.proofs.Theorems.Sums.Laws.{adds_is}
use Rattle.delivery.proofs.mean.with_colour.Goals as goal

pub returns : goal.returns
returns c =
    let s = c.args.s in
    let t = c.args.c in
    let sums = c.requires.sums in
    let colour = c.requires.colour in
    let lightness-le : ∣ t.L.0 ∣ ≤ 256 * 2 ^ 20 = omega (arith, colour.L) in
    rw (adds_is s.L t.L.0 sums.L lightness-le, adds_is s.a t.a.0 sums.a colour.a, adds_is s.b t.b.0 sums.b colour.b)
