-- A turn puts one digit in front of those that stand. Assumes nothing.
use Rattle.std.proofs.Common.{◌≡◌, ◌+◌, ◌-◌, ◌≤◌, sym, ◌∙◌, length, add-zero, arith}
use Rattle.std.proofs.Math.Nat.{sub-zero, div-one}
use Rattle.text.specs.Decimal.{last_digits}
use Rattle.text.proofs.Theorems.Put.Laws.{put_before, put-nil}
use Rattle.text.proofs.Theorems.Decimal.Laws.{last_digits_zero, last_digits_more, last_digits_length, div_pow_more}
use Rattle.text.proofs.decimal.put_digits.Goals as goal

pub loop-j-init : goal.loop-j-init
loop-j-init c =
    let none : c.args.k - c.args.k ≡ 0 = omega arith in
    record {
      done = rw (none, last_digits_zero c.args.n) (sym (put-nil c.args.dst.now (c.args.at + c.args.k)));
      rest = rw none (sym (div-one c.args.n));
    }

pub overflow_add-dst-in-loop-j : goal.overflow_add-dst-in-loop-j
overflow_add-dst-in-loop-j c = omega (arith, last_digits_length c.args.k c.args.n)

pub bounds-dst-at : goal.bounds-dst-at
bounds-dst-at c = omega (arith, last_digits_length c.args.k c.args.n)

pub loop-j-preserved : goal.loop-j-preserved
loop-j-preserved c =
    let a = c.args in
    let j = c.loop-j.j in
    let room = last_digits_length a.k a.n in
    let one_less : a.k - (j - 1) ≡ a.k - j + 1 = omega arith in
    let before : a.at + j ≡ a.at + (j - 1) + 1 = omega arith in
    let free : a.at + (j - 1) + 1 + length (last_digits (a.k - j) a.n) ≤ length a.dst.now =
    rw last_digits_length (omega arith) in
    record {
      done =
          rw (one_less, last_digits_more, c.loop-j.invariant.done, c.loop-j.invariant.rest, before)
          (put_before a.dst.now (a.at + (j - 1)) (last_digits (a.k - j) a.n) _ free);
      rest = rw (one_less, c.loop-j.invariant.rest) (div_pow_more a.n (a.k - j));
    }

pub overflow_add-result : goal.overflow_add-result
overflow_add-result c = omega (arith, last_digits_length c.args.k c.args.n)

pub returns : goal.returns
returns c =
    let none : c.loop-j.j ≡ 0 = omega arith in
    record { end = rw last_digits_length; bytes = c.loop-j.invariant.done ∙ rw none (simp (add-zero, sub-zero)) }
