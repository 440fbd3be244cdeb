-- `angle::Point::search` meets its contract: each turn halves the degrees that are in question. Assumes nothing.
use Rattle.std.proofs.Common.{◌≡◌, sym, ◌∙◌, refl, ℕ, ◌+◌, ◌-◌, ◌*◌, ◌%◌, ◌^◌, ◌<◌, ◌≤◌, lit<, le_antisymm, arith}
use lib.Pow.{pow_mono, pow-add, shl_exact}
use Rattle.angle.specs.Angle.Laws.{degrees-lt, reached-upto, not_reached}
use Rattle.angle.proofs.Point.search.Invariants.{Narrowed}
use Rattle.angle.proofs.Point.search.Goals.{else-next-lt90-via-then-next-lt90+else-has_reached, else-next-lt90-via-else-next-lt90}
use Rattle.angle.proofs.Point.search.Goals as goal

-- ---- a turn

step_is : (left : ℕ) → left ≤ 7 → 1 * 2 ^ (left - 1) % 2 ^ 32 ≡ 2 ^ (left - 1)
step_is left h = shl_exact {a = 1} 1 (left - 1) 32 (lit< tt) (omega arith) ∙ omega arith

step_le : (left : ℕ) → left ≤ 7 → 2 ^ (left - 1) ≤ 64
step_le left h = pow_mono {j = 6} (omega arith)

step_half : (left : ℕ) → 0 < left → 2 ^ left ≡ 2 ^ (left - 1) + 2 ^ (left - 1)
step_half left h =
    let parts : 2 ^ (left - 1 + 1) ≡ 2 ^ (left - 1) * 2 ^ 1 = pow-add 2 (left - 1) 1 in
    let more : left - 1 + 1 ≡ left = omega arith in
    omega (arith, rw more at parts)

module _ {all degrees left : ℕ} (more : 0 < left) (n : Narrowed all degrees left) where
  one : degrees + 2 ^ (left - 1) ≤ all → Narrowed all (degrees + 2 ^ (left - 1)) (left - 1)
  one h = record { from = h; before = omega (arith, n.before, step_half left more) }

  none : all < degrees + 2 ^ (left - 1) → Narrowed all degrees (left - 1)
  none h = record { from = n.from; before = h }

-- ---- the loop

pub loop-left-init : goal.loop-left-init
loop-left-init c = record { from = omega arith; before = omega (arith, degrees-lt c.args.self.x c.args.self.y) }

pub overflow_add-next : goal.overflow_add-next
overflow_add-next c =
    let few = degrees-lt c.args.self.x c.args.self.y in
    let from = c.loop-left.invariant.from in
    record { fits = rw (step_is _ c.loop-left.auto.left) (omega (arith, step_le _ c.loop-left.auto.left)) }

pub loop-left-preserved-then-has_reached : goal.loop-left-preserved-then-has_reached
loop-left-preserved-then-has_reached c =
    let step = step_is _ c.loop-left.auto.left in
    let next = rw step at c.if-next-lt90.true in
    let is = rw step at c.has_reached.ensures in
    rw step (one c.loop-left-test.true c.loop-left.invariant ((reached-upto _ _ _ next).0 (sym is ∙ c.if-has_reached.true)))

pub loop-left-preserved : goal.loop-left-preserved
loop-left-preserved c =
    let step = step_is _ c.loop-left.auto.left in
    let few = degrees-lt c.args.self.x c.args.self.y in
    elim c.else-next-lt90.branch [
      | else-next-lt90-via-then-next-lt90+else-has_reached w ↦
          none c.loop-left-test.true c.loop-left.invariant
          (not_reached _ _ _ (rw step at w.if-next-lt90.true) (sym (rw step at w.has_reached.ensures) ∙ w.if-has_reached.false))
      | else-next-lt90-via-else-next-lt90 w ↦
          let next = rw step at w.if-next-lt90.false in
          none c.loop-left-test.true c.loop-left.invariant (omega (arith, next, few))
    ]

pub returns : goal.returns
returns c =
    let none_left : c.loop-left.left ≡ 0 = omega (arith, c.loop-left-test.false) in
    let last : 2 ^ c.loop-left.left ≡ 1 = rw none_left refl in
    le_antisymm c.loop-left.invariant.from (omega (arith, c.loop-left.invariant.before))
