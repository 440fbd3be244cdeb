-- `roots::square_root` meets its contract: a turn brings one group down and finds one digit more. Assumes nothing.
use Rattle.std.proofs.Common.{◌≡◌, refl, sym, ℕ, ◌+◌, ◌-◌, ◌*◌, ◌/◌, ◌^◌, ◌<◌, arith}
use Rattle.std.proofs.Math.Nat.{sub-zero}
use lib.Count.{count_leading_zeros}
use Rattle.rounding.proofs.Theorems.Root.Laws.{root_at, sq}
use Rattle.rounding.proofs.Digits.{Found, First, first_of_width, group_some, found_first}
use Rattle.rounding.proofs.Digits.{held-lt, found-zero, found_one, found_all}
use Rattle.rounding.proofs.roots.square_root.Goals.{then-root-rest, else-root-rest}
use Rattle.rounding.proofs.roots.square_root.Goals as goal

two : 0 < 2
two = omega arith

-- ---- the first digit

pub returns-then-x-eq0 : goal.returns-then-x-eq0
returns-then-x-eq0 c = rw c.if-x-eq0.true (sym (root_at 2 0 0 tt tt tt))

first : {x : ℕ} → ¬ (x ≡ 0) → x < 2 ^ 64 → First 2 x ((63 - count_leading_zeros 64 x) / 2)
first some fits = first_of_width (omega arith) fits 2 _ two refl

pub overflow_sub-rest : goal.overflow_sub-rest
overflow_sub-rest c = group_some two (first c.if-x-eq0.false c.ranges.x.fits)

pub loop-init : goal.loop-init
loop-init c = rw (c.last_digits-down.ensures, sub-zero) (found_first two (first c.if-x-eq0.false c.ranges.x.fits))

-- ---- a turn

takes_is : (r d : ℕ) → r ≡ 4 * d → (2 * d + 1) ^ 2 ≡ (2 * d) ^ 2 + (r + 1)
takes_is r d held = rw (sq (2 * d + 1), sq (2 * d), held) (omega arith)

small : {x turns turn root rest down : ℕ} →
    x < 2 ^ 64 → turn < turns → Found 4 2 x (turns - turn) root rest down → root < 4 * 2 ^ 31
small fits more h = held-lt two fits more h 31 (omega arith) (omega arith)

pub overflow_add-takes : goal.overflow_add-takes
overflow_add-takes c = record { fits = omega (arith, small c.ranges.x.fits c.loop-test.true c.loop.invariant) }

pub overflow_mul-root : goal.overflow_mul-root
overflow_mul-root c = record { fits = omega (arith, small c.ranges.x.fits c.loop-test.true c.loop.invariant) }

pub overflow_add-root : goal.overflow_add-root
overflow_add-root c = record { fits = omega (arith, small c.ranges.x.fits c.loop-test.true c.loop.invariant) }

pub overflow_mul-root-else-root-rest : goal.overflow_mul-root-else-root-rest
overflow_mul-root-else-root-rest c = record { fits = omega (arith, small c.ranges.x.fits c.loop-test.true c.loop.invariant) }

pub loop-preserved : goal.loop-preserved
loop-preserved c =
    let h = c.loop.invariant in
    let takes = takes_is _ _ h.held in
    elim c.if-root-rest.branch [
      | then-root-rest w ↦
          rw (w.root-is, w.rest-is) (found_one two c.ranges.x.fits c.loop-test.true h _ takes (omega (arith, w.if-root-rest.true)))
      | else-root-rest w ↦
          rw (w.root-is, w.rest-is) (found-zero two c.ranges.x.fits c.loop-test.true h _ takes (omega (arith, w.if-root-rest.false)))
    ]

-- ---- the end

pub returns : goal.returns
returns c = found_all c.loop.invariant (omega (arith, c.loop-test.false)) (omega arith)
