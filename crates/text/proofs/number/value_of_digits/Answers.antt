-- A byte that is a digit goes on from v, and another one makes it no number. Assumes nothing.
use Rattle.std.proofs.Common.{ℕ, ◌+◌, ◌*◌, drop, get_or, sym, ap, ◌∙◌, arith}
use Rattle.text.specs.Number.{numeral}
use Rattle.text.specs.Number.Laws.{numeral_more, numeral_none, numeral_end, digit_le, digit_more}
use Rattle.text.proofs.number.value_of_digits.Goals as goal

pub returns-then-not-is_ascii_digit : goal.returns-then-not-is_ascii_digit
returns-then-not-is_ascii_digit c =
    let e = sym c.is_ascii_digit.ensures.value ∙ c.if-not-is_ascii_digit.true in
    sym (c.loop-b.invariant.goes_on ∙ numeral_none c.loop-b.v c.args.s.now c.loop-b.b-index c.loop-b-test.true e)

pub loop-b-preserved : goal.loop-b-preserved
loop-b-preserved c =
    let s = c.args.s.now in
    let v = c.loop-b.v in
    let i = c.loop-b.b-index in
    let e = sym c.is_ascii_digit.ensures.value ∙ c.if-not-is_ascii_digit.false in
    record {
      goes_on =
          c.loop-b.invariant.goes_on ∙ numeral_more v s i c.loop-b-test.true e
          ∙ ap (λ (d : ℕ). numeral (v * 10 + d) (drop (i + 1) s)) (sym c.from.ensures);
      small = digit_more v c.from.result i c.loop-b.invariant.small (omega (arith, digit_le (get_or s i 0) e));
    }

pub returns : goal.returns
returns c =
    sym (c.loop-b.invariant.goes_on ∙ numeral_end c.loop-b.v c.args.s.now c.loop-b.b-index c.loop-b-test.false)
