-- THE FIGURE THAT IS SHOWN IS THE NEAREST, over the number of decimals and over the unit; and no other is. No law but
-- this opens `shown`; cases compute it. `Decimal/Signed.antt` has it with its sign. Assumes nothing.
use Rattle.std.specs.Prelude.{◌≡◌, refl, ℕ, ◌+◌, ◌*◌, ◌/◌, ◌^◌, ◌≤◌, ◌<◌}
use Rattle.std.proofs.Common.{sym, ◌∙◌, lt_of_mul-lt-mul_right, arith}
use Rattle.rounding.specs.Fraction.{fraction_law}
use Rattle.rounding.specs.Nearest.{nearest_up}
use Rattle.rounding.proofs.Theorems.Nearest.Laws.{Closest, nearest, closest, closest_unique}
use Rattle.text.specs.Decimal.{shown}

-- two figures first, by which another rule is refused in digits. Units of 2 ^ -20 in ten-thousandths: 0.91885.., and
-- 1/32, which is midway between two
pub record ShownCases : Type 0 where
  pub nearer : shown 4 (2 ^ 20) 963487 ≡ 9189
  pub midway : shown 4 (2 ^ 20) 32768 ≡ 313

pub shown_cases : ShownCases
unfolding shown
shown_cases = record { nearer = refl; midway = refl }

-- s last digits are shown of m units, of which per_one make one. Where one is per_one * 10 ^ places, the figure is
-- m * 10 ^ places, what is shown of it s * per_one, and one last digit per_one: twice the distance of the two is at most
-- one last digit, and at a tie the greater magnitude is shown
abbrev pub ShownNearest : (places per_one m s : ℕ) → Type 0
ShownNearest places per_one m s = Closest (m * 10 ^ places) per_one s

module _ (places per_one m : ℕ) (some : 0 < per_one) where
  pub shown-nearest : ShownNearest places per_one m (shown places per_one m)
  unfolding shown
  shown-nearest = closest (m * 10 ^ places) per_one some

  -- a reading's rule says the same
  pub shown_by_the_rule : shown places per_one m ≡ nearest_up (m * 10 ^ places) per_one
  shown_by_the_rule = closest_unique (m * 10 ^ places) per_one (shown places per_one m) some shown-nearest

  pub no_other_shown : (s : ℕ) → ShownNearest places per_one m s → s ≡ shown places per_one m
  no_other_shown s h = closest_unique (m * 10 ^ places) per_one s some h ∙ sym shown_by_the_rule

  -- cut after so many places, it is the same or one last digit less
  pub shown_or_one_less :
      (m * 10 ^ places / per_one ≤ shown places per_one m) × (shown places per_one m ≤ m * 10 ^ places / per_one + 1)
  shown_or_one_less =
      let figure : ℕ = m * 10 ^ places in
      let cut = fraction_law figure per_one some in
      let h = nearest figure per_one some in
      let low =
      lt_of_mul-lt-mul_right per_one {m = figure / per_one} {n = nearest_up figure per_one + 1}
      (omega (arith, cut.low, h.high)) in
      let high =
      lt_of_mul-lt-mul_right per_one {m = nearest_up figure per_one} {n = figure / per_one + 2}
      (omega (arith, cut.high, h.low)) in
      rw shown_by_the_rule (omega (arith, low), omega (arith, high))
