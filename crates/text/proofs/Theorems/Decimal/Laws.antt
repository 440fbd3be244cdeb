-- What callers use of decimals: their digits from the last one back, and their lengths. Assumes nothing.
use Rattle.std.specs.Prelude.{◌≡◌, refl, [], ◌∷◌, ℕ, zero, suc, ◌+◌, ◌*◌, ◌/◌, ◌%◌, ◌^◌, ◌≤◌, ◌<◌, ◌⊎◌, length}
use Rattle.std.proofs.Common.{sym, ap, ◌∙◌, add-one, inl, inr, ⊎_elim, eq-zero-or-pos, pow-suc, mul-le-mul_right, div-add-mod', div-lt_iff_lt-mul, arith, lt-ltb, le-ltb, length-append}
use Rattle.std.proofs.Math.Nat.{one-le-pow, pow-zero, pow-succ', div-div-eq-div-mul}
use Rattle.rounding.specs.Fraction.{div-lt}
use Rattle.rounding.specs.Nearest.{nearest_up}
use Rattle.rounding.proofs.Theorems.Nearest.Laws.{nearest-le, nearest_more}
use Rattle.text.specs.Decimal.{shown, last_digits, width_in, width, whole_text, minus_sign, decimal_text}
use Rattle.text.proofs.Theorems.Decimal.Nearest.{shown_by_the_rule}
use Rattle.text.specs.declared.decimal.Shown.{Shown}

-- ---- what is shown

-- the whole ones and the rest, each by itself, so that no product is large
pub shown_split :
    (places per_one m : ℕ) → 0 < per_one →
    shown places per_one m ≡ m / per_one * 10 ^ places + nearest_up (m % per_one * 10 ^ places) per_one
shown_split places per_one m h =
    let ten : ℕ = 10 ^ places in
    let split : m * ten ≡ m / per_one * ten * per_one + m % per_one * ten =
    ap (λ (x : ℕ). x * ten) (sym (div-add-mod' m per_one)) ∙ omega arith in
    shown_by_the_rule places per_one m h ∙ ap (λ (x : ℕ). nearest_up x per_one) split
    ∙ nearest_more (m / per_one * ten) (m % per_one * ten) per_one h

-- below so many ones, and by one at least, fewer than these are shown: no carry comes to them
pub shown_whole_lt :
    (places per_one ones m : ℕ) → 0 < per_one → m + per_one ≤ ones * per_one → shown places per_one m / 10 ^ places < ones
shown_whole_lt places per_one zero m h f = absurd (omega arith)
shown_whole_lt places per_one (suc ones) m h f =
    let ten : ℕ = 10 ^ places in
    let some : 0 < ten = one-le-pow places 10 (omega arith) in
    let scaled : m * ten ≤ ones * ten * per_one = omega (arith, mul-le-mul_right ten f) in
    let most = nearest-le (m * ten) per_one (ones * ten) h scaled in
    div-lt (shown places per_one m) ten (suc ones) some (omega (arith, most, shown_by_the_rule places per_one m h))

-- ---- digits

pub last_digits_zero : (n : ℕ) → last_digits 0 n ≡ []
unfolding last_digits
last_digits_zero n = refl

-- one digit more in front
pub last_digits_more : (k n : ℕ) → last_digits (k + 1) n ≡ (48 + n / 10 ^ k % 10) ∷ last_digits k n
unfolding last_digits
last_digits_more k n = rw add-one

pub last_digits_length : (k n : ℕ) → length (last_digits k n) ≡ k
unfolding last_digits
last_digits_length zero n = refl
last_digits_length (suc k) n = ap suc (last_digits_length k n)

-- what is left of n once k digits are gone, and once one more is
pub div_pow_more : (n k : ℕ) → n / 10 ^ k / 10 ≡ n / 10 ^ (k + 1)
div_pow_more n k = rw (add-one, pow-suc) (div-div-eq-div-mul n (10 ^ k) 10)

-- ---- how many digits

pub width_in_small : (k n : ℕ) → n < 10 → width_in k n ≡ 1
unfolding width_in
width_in_small zero n h = refl
width_in_small (suc k) n h = rw (lt-ltb n 10 h)

pub width_in_more : (k n : ℕ) → 10 ≤ n → width_in (suc k) n ≡ width_in k (n / 10) + 1
unfolding width_in
width_in_more k n h = rw (le-ltb n 10 h)

pub one_or_more : (n : ℕ) → (n < 10) ⊎ (10 ≤ n)
one_or_more n =
    ⊎_elim (λ (h : n / 10 ≡ 0). inl (omega arith)) (λ (h : 0 < n / 10). inr (omega arith)) (eq-zero-or-pos (n / 10))

pub div-ten-lt : (k : ℕ) {n : ℕ} → n < 10 ^ suc k → n / 10 < 10 ^ k
div-ten-lt k {n} h = (div-lt_iff_lt-mul {k = 10} {x = n} {y = 10 ^ k} (omega arith)).1 (rw pow-suc at h)

-- turns that are enough all count the same
width_in_enough : (k j n : ℕ) → n < 10 ^ k → n < 10 ^ j → width_in k n ≡ width_in j n
unfolding width_in
width_in_enough zero j n hk hj = sym (width_in_small j n (omega (arith, pow-zero 10)))
width_in_enough (suc k) zero n hk hj = width_in_small (suc k) n (omega (arith, pow-zero 10))
width_in_enough (suc k) (suc j) n hk hj =
    let ih : width_in k (n / 10) ≡ width_in j (n / 10) =
    width_in_enough k j (n / 10) (div-ten-lt k hk) (div-ten-lt j hj) in
    ⊎_elim
    (λ (h : n < 10). width_in_small (suc k) n h ∙ sym (width_in_small (suc j) n h))
    (λ (h : 10 ≤ n). width_in_more k n h ∙ ap (λ (w : ℕ). w + 1) ih ∙ sym (width_in_more j n h))
    (one_or_more n)

width_in_le : (j k n : ℕ) → n < 10 ^ suc k → width_in j n ≤ suc k
unfolding width_in
width_in_le zero k n h = omega arith
width_in_le (suc j) zero n h = omega (arith, width_in_small (suc j) n (omega (arith, pow-suc 10 0, pow-zero 10)))
width_in_le (suc j) (suc k) n h =
    let ih : width_in j (n / 10) ≤ suc k = width_in_le j k (n / 10) (div-ten-lt (suc k) h) in
    ⊎_elim
    (λ (f : n < 10). omega (arith, width_in_small (suc j) n f))
    (λ (f : 10 ≤ n). omega (arith, width_in_more j n f))
    (one_or_more n)

-- whatever the number
width_in_few : (k n : ℕ) → width_in k n ≤ k + 1
unfolding width_in
width_in_few zero n = omega arith
width_in_few (suc k) n =
    let ih : width_in k (n / 10) ≤ k + 1 = width_in_few k (n / 10) in
    ⊎_elim (λ (f : n < 10). omega (arith, width_in_small (suc k) n f))
    (λ (f : 10 ≤ n). omega (arith, width_in_more k n f)) (one_or_more n)

pub width_few : (n : ℕ) → width n ≤ 21
width_few n = width_in_few 20 n

pub width_small : (n : ℕ) → n < 10 → width n ≡ 1
width_small n h = width_in_small 20 n h

pub width_more : (n : ℕ) → n < 10 ^ 20 → 10 ≤ n → width n ≡ width (n / 10) + 1
width_more n f h =
    width_in_more 19 n h ∙ ap (λ (w : ℕ). w + 1) (width_in_enough 19 20 (n / 10) (div-ten-lt 19 f) (omega arith))

pub width-le : (k n : ℕ) → 0 < k → n < 10 ^ k → width n ≤ k
width-le zero n z h = absurd (omega arith)
width-le (suc k) n z h = width_in_le 20 k n h

-- a number between a power of ten and the next
pub width_of_power : (k n : ℕ) → n < 10 ^ 20 → 10 ^ k ≤ n → n < 10 * 10 ^ k → width n ≡ k + 1
width_of_power zero n few low high = width_small n (omega (arith, pow-zero 10))
width_of_power (suc k) n few low high =
    let some : 1 ≤ 10 ^ k = one-le-pow k 10 (omega arith) in
    let scale : 10 ^ suc k ≡ 10 * 10 ^ k = pow-succ' 10 k in
    let ih = width_of_power k (n / 10) (omega arith) (omega arith) (omega arith) in
    width_more n few (omega arith) ∙ ap (λ (w : ℕ). w + 1) ih ∙ omega arith

pub whole_length : (n : ℕ) → length (whole_text n) ≡ width n
whole_length n = last_digits_length (width n) n

-- a digit by itself
pub whole_digit : (n : ℕ) → n < 10 → whole_text n ≡ (48 + n) ∷ []
unfolding last_digits
whole_digit n h =
    rw (width_small n h)
    (let e : n / 10 ^ 0 % 10 ≡ n = omega (arith, pow-zero 10) in ap (λ (d : ℕ). (48 + d) ∷ []) e)

-- ---- a decimal

pub decimal-length :
    (d : Shown) → length (decimal_text d) ≡ length (minus_sign d.minus) + width d.whole + 1 + d.places
unfolding decimal_text
decimal-length d = simp (length-append, last_digits_length) (omega arith)
