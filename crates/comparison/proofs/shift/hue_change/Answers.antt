-- `shift::hue_change` meets its contract: no change where D² is below ΔC², else the root, which is below 2^33.
-- Assumes nothing.
use Rattle.std.proofs.Common.{◌≡◌, ◌-◌, ◌*◌, ◌^◌, sym, arith, rules}
use Rattle.std.proofs.Math.Nat.{le_of_lt}
use Rattle.rounding.specs.Signed.{∣◌∣}
use Rattle.rounding.proofs.Theorems.Root.Laws.{root-lt}
use Rattle.sheet.proofs.Theorems.Sheet.Laws.{hue_change-zero}
use Rattle.comparison.proofs.shift.hue_change.Goals as goal

pub returns-then-d2-c2 : goal.returns-then-d2-c2
returns-then-d2-c2 c =
    let s = c.args in
    let is : c.magnitude-m.result ≡ ∣ s.dc ∣ = search rules in
    sym (hue_change-zero s.d2 s.dc s.turn.x s.turn.y (le_of_lt (rw is at c.if-d2-c2.true)))

pub with_sign-requires : goal.with_sign-requires
with_sign-requires c =
    let m = c.magnitude-m.result in
    rw c.square_root.ensures (omega (arith, root-lt 2 (c.args.d2 - m * m) (2 ^ 33) (omega arith) (omega arith)))
