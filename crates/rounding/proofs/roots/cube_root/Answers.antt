-- `roots::cube_root` meets its contract as `square_root` does, at the exponent 3: the same laws, over groups of three.
-- Assumes nothing.
use Rattle.std.proofs.Common.{◌≡◌, sym, ℕ, ◌-◌, ◌/◌, ◌^◌, ◌<◌, arith}
use Rattle.std.proofs.Math.Nat.{sub-zero}
use lib.Count.{count_leading_zeros}
use Rattle.rounding.proofs.Theorems.Root.Laws.{root_at}
use Rattle.rounding.proofs.Digits.{Found, First, first_of_width, group_some, found_first}
use Rattle.rounding.proofs.Digits.{held-lt, found-zero, found_one, found_all}
use Rattle.rounding.proofs.roots.cube_root.Goals.{then-over-rest, else-over-rest}
use Rattle.rounding.proofs.roots.cube_root.Goals as goal

three : 0 < 3
three = omega arith

-- ---- the first digit

pub returns-then-x-eq0 : goal.returns-then-x-eq0
returns-then-x-eq0 c = rw c.if-x-eq0.true (sym (root_at 3 0 0 tt tt tt))

first : {x turns : ℕ} →
    ¬ (x ≡ 0) → x < 2 ^ 64 → turns ≡ (63 - count_leading_zeros 64 x) / 3 → First 3 x turns
first some fits is = first_of_width (omega arith) fits 3 _ three is

pub overflow_sub-rest : goal.overflow_sub-rest
overflow_sub-rest c = group_some three (first c.if-x-eq0.false c.ranges.x.fits c.third-turns.ensures)

pub loop-init : goal.loop-init
loop-init c =
    let at_first = first c.if-x-eq0.false c.ranges.x.fits c.third-turns.ensures in
    rw (c.last_digits-down.ensures, sub-zero) (found_first three at_first)

-- ---- a turn

small : {x turns turn root rest down : ℕ} →
    x < 2 ^ 64 → turn < turns → Found 2 3 x (turns - turn) root rest down → root < 2 ^ 22
small fits more h = held-lt three fits more h 21 (omega arith) (omega arith)

pub cube_takes_over-over-requires : goal.cube_takes_over-over-requires
cube_takes_over-over-requires c = small c.ranges.x.fits c.loop-test.true c.loop.invariant

pub overflow_mul-root : goal.overflow_mul-root
overflow_mul-root c = record { fits = omega (arith, small c.ranges.x.fits c.loop-test.true c.loop.invariant) }

pub overflow_add-root : goal.overflow_add-root
overflow_add-root c = record { fits = omega (arith, small c.ranges.x.fits c.loop-test.true c.loop.invariant) }

pub overflow_mul-root-else-over-rest : goal.overflow_mul-root-else-over-rest
overflow_mul-root-else-over-rest c =
    record { fits = omega (arith, small c.ranges.x.fits c.loop-test.true c.loop.invariant) }

pub loop-preserved : goal.loop-preserved
loop-preserved c =
    let h = c.loop.invariant in
    let takes = rw h.held at c.cube_takes_over-over.ensures in
    elim c.if-over-rest.branch [
      | then-over-rest w ↦
          rw (w.root-is, w.rest-is)
          (found_one three c.ranges.x.fits c.loop-test.true h _ takes (omega (arith, w.if-over-rest.true)))
      | else-over-rest w ↦
          rw (w.root-is, w.rest-is)
          (found-zero three c.ranges.x.fits c.loop-test.true h _ takes (omega (arith, w.if-over-rest.false)))
    ]

-- ---- the end

pub returns : goal.returns
returns c = found_all c.loop.invariant (omega (arith, c.loop-test.false)) (omega arith)
