-- Roots one binary digit at a time, over the exponent e, as on paper. The digits of x are marked off from the right in
-- groups of e, and `left` groups are still to be brought down. What is known between two digits (`Found`); the first
-- digit (`found_first`); one digit more (`found-zero`, `found_one`); the end (`found_all`). Assumes nothing.
use mathlib.Core.Path.{◌≡◌, refl, sym, ap, ◌∙◌}
use Prim.Native.Nat.{ℕ, suc, ◌+◌, ◌-◌, ◌*◌, ◌/◌, ◌%◌, ◌^◌, ◌≤◌, ◌<◌}
use native.Mathlib.Nat.{pow-zero, mul-zero, mul-one, mul-suc, mul_assoc, mul-le-mul_left, mul-div-mul_right, div-one}
use native.Mathlib.Nat.{div-add-mod', add-mul-mod_self_right, mod-lt, mul-div-le, lt-mul-div-succ, le_trans}
use native.Mathlib.Nat.{mul-div_right, mul-lt-mul_of_pos_left, lt_of_lt_of_le}
use native.Mathlib.Omega.{arith}
use lib.Count.{count_leading_zeros, leading_top}
use lib.Pow.{pow-add, pow_mono, pow_pos, shl_exact, shr_lt, shr_le, shr-shr, split, field}
use Rattle.rounding.specs.Root.{root_of, IsRoot, root_law, mul-pow, one_pow}
use Rattle.rounding.proofs.Theorems.Root.Laws.{root-lt, root_unique, pow-mul}
use Rattle.rounding.specs.Fraction.{le-div}

-- ---- what is known between two digits

-- r is the root of n, and rest is what is left of n
pub record Rooted (e n r rest : ℕ) : Type 0 where
  pub root : r ≡ root_of e n
  pub remainder : r ^ e + rest ≡ n

-- the digits found so far are the root of the leading part of x, and rest is what is left of that part. root holds the
-- digits times z, with 0s behind them; what stands behind the leading part is held at the top of a word
pub record Found (z e x left root rest down : ℕ) : Type 0 where
  pub digits : ℕ
  pub held : root ≡ z * digits
  pub leading : Rooted e (x / 2 ^ (e * left)) digits rest
  pub behind : down ≡ x * 2 ^ (64 - e * left) % 2 ^ 64
  pub within : e * left < 64

-- ---- a digit: n is the leading part with its next group, n / 2 ^ e the part before that

module _ {e r rest : ℕ} (n : ℕ) (some : 0 < e) (h : Rooted e (n / 2 ^ e) r rest) where
  -- what is there once the group is brought down
  abbrev there : ℕ
  there = rest * 2 ^ e + n % 2 ^ e

  brought : (2 * r) ^ e + there ≡ n
  brought = rw mul-pow (omega (arith, ap (λ (z : ℕ). z * 2 ^ e) h.remainder, split n e))

  -- no digit is above 1
  below_two : n < (2 * r + 1 + 1) ^ e
  below_two = rw (twice, mul-pow) (omega (arith, mul-le-mul_left (2 ^ e) above, split n e, mod-lt n (pow_pos e)))
    where
      twice : 2 * r + 1 + 1 ≡ 2 * (r + 1)
      twice = omega arith

      above : n / 2 ^ e < (r + 1) ^ e
      above = rw h.root (root_law e (n / 2 ^ e) some).high

  -- behind the digits r a 1 takes m more than a 0
  module _ (m : ℕ) (takes : (2 * r + 1) ^ e ≡ (2 * r) ^ e + m) where
    digit-zero : there < m → Rooted e n (2 * r) there
    digit-zero less =
        record {
          root =
              root_unique e n (2 * r) some
              (record { low = omega (arith, brought); high = rw takes (omega (arith, brought)) });
          remainder = brought;
        }

    digit_one : m ≤ there → Rooted e n (2 * r + 1) (there - m)
    digit_one enough =
        record {
          root =
              root_unique e n (2 * r + 1) some
              (record { low = rw takes (omega (arith, brought)); high = below_two });
          remainder = rw takes (omega (arith, brought));
        }

-- ---- the parts of x: the leading one, x / 2 ^ (e * left), and what stands behind it

pub mod_times : (a b m : ℕ) → a % m * b % m ≡ a * b % m
mod_times a b m = sym (add-mul-mod_self_right (a % m * b) (a / m * b) m) ∙ ap (λ (z : ℕ). z % m) whole
  where
    whole : a % m * b + a / m * b * m ≡ a * b
    whole = omega (arith, ap (λ (z : ℕ). z * b) (div-add-mod' a m))

-- `less` places stand behind the leading part once it has one group more
module _ {places : ℕ} (e x less : ℕ) (is : places ≡ less + e) (within : places < 64) where
  lead_splits : x / 2 ^ places ≡ x / 2 ^ less / 2 ^ e
  lead_splits = rw (is, ← shr-shr x less e)

  -- that group is at the top of what stands behind
  group_is_next : x * 2 ^ (64 - places) % 2 ^ 64 / 2 ^ (64 - e) ≡ x / 2 ^ less % 2 ^ e
  group_is_next = top ∙ rw (below, pow-add 2 less a, mul-div-mul_right x (2 ^ less) (pow_pos a))
    where
      a : ℕ
      a = 64 - places

      word : e + (64 - e) ≡ 64
      word = omega (arith, is)

      top : x * 2 ^ a % 2 ^ 64 / 2 ^ (64 - e) ≡ x * 2 ^ a / 2 ^ (64 - e) % 2 ^ e
      top = rw word at (field (x * 2 ^ a) e (64 - e))

      below : 64 - e ≡ less + a
      below = omega (arith, is)

  -- which moves up
  behind_moves : x * 2 ^ (64 - places) % 2 ^ 64 * 2 ^ e % 2 ^ 64 ≡ x * 2 ^ (64 - less) % 2 ^ 64
  behind_moves =
      mod_times (x * 2 ^ (64 - places)) (2 ^ e) (2 ^ 64) ∙ rw (mul_assoc x, ← pow-add 2 (64 - places) e, up)
    where
      up : 64 - places + e ≡ 64 - less
      up = omega (arith, is)

-- ---- a turn, as the code makes it: of `turns` groups `turn` have been brought down before it

module _ {z e x turns turn root rest down : ℕ}
    (some : 0 < e) (fits : x < 2 ^ 64) (more : turn < turns) (h : Found z e x (turns - turn) root rest down) where
  abbrev less : ℕ
  less = e * (turns - (turn + 1))

  abbrev lead : ℕ
  lead = x / 2 ^ less

  one_group : e * (turns - turn) ≡ less + e
  one_group = ap (λ (n : ℕ). e * n) one_more ∙ mul-suc e (turns - (turn + 1)) ∙ omega arith
    where
      one_more : turns - turn ≡ suc (turns - (turn + 1))
      one_more = omega arith

  rooted : Rooted e (lead / 2 ^ e) h.digits rest
  rooted = rw (lead_splits e x less one_group h.within) at h.leading

  before_lt : x / 2 ^ (e * (turns - turn)) < 2 ^ (64 - e)
  before_lt = lt_of_lt_of_le (shr_lt (64 - e * (turns - turn)) (e * (turns - turn)) (rw word fits)) (pow_mono (omega (arith, one_group)))
    where
      word : 64 - e * (turns - turn) + e * (turns - turn) ≡ 64
      word = omega (arith, h.within)

  -- so many places are enough for the digits found so far
  digits_lt : (most : ℕ) → 64 ≤ e * most + e → h.digits < 2 ^ most
  digits_lt most enough =
      rw h.leading.root
      (root-lt e (x / 2 ^ (e * (turns - turn))) (2 ^ most) some
      (rw pow-mul (lt_of_lt_of_le before_lt (pow_mono (omega arith)))))

  pub held-lt : (most : ℕ) → 64 ≤ e * most + e → 0 < z → root < z * 2 ^ most
  held-lt most enough hz = rw h.held (mul-lt-mul_of_pos_left (digits_lt most enough) hz)

  -- what the code makes of the rest and the next group: nothing of it is shifted out
  abbrev down_there : ℕ
  down_there = rest * 2 ^ e % 2 ^ 64 + down / 2 ^ (64 - e)

  there_is : down_there ≡ there lead some rooted
  there_is = rw (shl_exact (64 - e) e 64 short wide, h.behind, group_is_next e x less one_group h.within)
    where
      short : rest < 2 ^ (64 - e)
      short = omega (arith, before_lt, h.leading.remainder)

      wide : 64 - e + e ≤ 64
      wide = omega (arith, h.within, one_group)

  pub there_fits : down_there < 2 ^ 64
  there_fits = rw there_is (omega (arith, brought lead some rooted, shr_le x less))

  found_next : {r s : ℕ} (d : ℕ) → r ≡ z * d → Rooted e lead d s → Found z e x (turns - (turn + 1)) r s (down * 2 ^ e % 2 ^ 64)
  found_next d held leading =
      record {
        digits = d;
        held = held;
        leading = leading;
        behind = rw h.behind (behind_moves e x less one_group h.within);
        within = omega (arith, h.within, one_group);
      }

  module _ (m : ℕ) (takes : (2 * h.digits + 1) ^ e ≡ (2 * h.digits) ^ e + m) where
    pub found-zero : down_there < m → Found z e x (turns - (turn + 1)) (2 * root) down_there (down * 2 ^ e % 2 ^ 64)
    found-zero short =
        rw there_is
        (found_next (2 * h.digits) (omega (arith, h.held)) (digit-zero lead some rooted m takes (rw there_is at short)))

    pub found_one :
        m ≤ down_there → Found z e x (turns - (turn + 1)) (2 * root + z) (down_there - m) (down * 2 ^ e % 2 ^ 64)
    found_one enough =
        rw there_is
        (found_next (2 * h.digits + 1) (omega (arith, h.held)) (digit_one lead some rooted m takes (rw there_is at enough)))

-- ---- the first digit, and the end

-- the first group of x, which is not 0, has `left` groups behind it
pub record First (e x left : ℕ) : Type 0 where
  pub low : 2 ^ (e * left) ≤ x
  pub high : x < 2 ^ (e + e * left)
  pub within : e * left < 64

module _ {x : ℕ} (some : 0 < x) (fits : x < 2 ^ 64) where
  top : (j : ℕ) × (count_leading_zeros 64 x + suc j ≡ 64) × (2 ^ j ≤ x) × (x < 2 ^ suc j)
  top = leading_top 64 x some fits

  pub zeros-le : count_leading_zeros 64 x ≤ 63
  zeros-le = omega (arith, top.1)

  -- the width of x says where it stands
  pub first_of_width : (e left : ℕ) → 0 < e → left ≡ (63 - count_leading_zeros 64 x) / e → First e x left
  first_of_width e left he is =
      rw (is, width)
      (record {
        low = le_trans (pow_mono down) top.2;
        high = lt_of_lt_of_le top.3 (pow_mono up);
        within = omega (arith, top.1, down);
      })
    where
      width : 63 - count_leading_zeros 64 x ≡ top.0
      width = omega (arith, top.1)

      down : e * (top.0 / e) ≤ top.0
      down = mul-div-le top.0 e

      up : suc top.0 ≤ e + e * (top.0 / e)
      up = omega (arith, lt-mul-div-succ top.0 he)

module _ {e x left : ℕ} (some : 0 < e) (h : First e x left) where
  pub group_some : 1 ≤ x / 2 ^ (e * left)
  group_some = le-div x (2 ^ (e * left)) 1 (pow_pos (e * left)) (omega (arith, h.low))

  -- so the first digit is 1
  pub found_first : {z : ℕ} → Found z e x left z (x / 2 ^ (e * left) - 1) (x * 2 ^ (64 - e * left) % 2 ^ 64)
  found_first {z} =
      record {
        digits = 1;
        held = sym (mul-one z);
        leading =
            record {
              root = root_unique e (x / 2 ^ (e * left)) 1 some one;
              remainder = rw one_pow (omega (arith, group_some));
            };
        behind = refl;
        within = h.within;
      }
    where
      one : IsRoot e (x / 2 ^ (e * left)) 1
      one = record { low = rw one_pow group_some; high = shr_lt e (e * left) h.high }

-- with no group left all of x is the leading part
pub found_all : {z e x left root rest down : ℕ} →
    Found z e x left root rest down → left ≤ 0 → 0 < z → root / z ≡ root_of e x
found_all {z} {e} {x} {left} h none some = rw (h.held, mul-div_right h.digits some) (h.leading.root ∙ whole)
  where
    ended : left ≡ 0
    ended = omega arith

    whole : root_of e (x / 2 ^ (e * left)) ≡ root_of e x
    whole = rw (ended, mul-zero, pow-zero, div-one)
