-- A decimal that is written is read back. Assumes nothing.
use Rattle.std.specs.Prelude.{ℕ, zero, suc, ◌+◌, ◌-◌, ◌*◌, ◌/◌, ◌%◌, ◌^◌, ◌≤◌, ◌<◌, ◌≡◌, refl, Bool, true, false, List, [], ◌∷◌, ◌++◌, length, Some}
use Rattle.std.proofs.Math.Path.{ap}
use Rattle.std.proofs.Common.{◌∙◌, append-nil, ⊎_elim, lit<, arith, pow-suc, div-add-mod', add-one, le-leb, ne_eqb}
use Rattle.std.proofs.Math.Arith.{mod-mul}
use Rattle.std.proofs.Math.Nat.{pow-succ', one-le-pow, mod-one, mod-eq_of_lt, pow-le-pow_right, lt_of_lt_of_le}
use Rattle.text.specs.Ascii.{ascii}
use Rattle.text.specs.Decimal.{last_digits, width_in, width, minus_sign, decimal_text, with_places}
use Rattle.text.proofs.Theorems.Decimal.Laws.{last_digits_length, one_or_more, div-ten-lt, width_in_small, width_in_more}
use Rattle.text.proofs.Theorems.Decimal.Laws.{width-le}
use Rattle.text.specs.Bytes.{starts_with}
use Rattle.text.proofs.Theorems.Bytes.Parts.{free, free-append, has-append, before_append, after-append}
use Rattle.text.proofs.Theorems.Bytes.Parts.{starts_false_of_free}
use Rattle.text.specs.Number.{numeral, digits_of, fraction_of, decimal_of, thousandths_of, decimal_below, signed_of}
use Rattle.text.specs.declared.decimal.Shown.{Shown}

-- ---- how many digits

-- enough
lt_pow_width_in : (k n : ℕ) → n < 10 ^ k → n < 10 ^ width_in k n
unfolding width_in
lt_pow_width_in zero n h = omega arith
lt_pow_width_in (suc k) n h =
    let ih : n / 10 < 10 ^ width_in k (n / 10) = lt_pow_width_in k (n / 10) (div-ten-lt k h) in
    ⊎_elim
    (λ (f : n < 10). rw (width_in_small (suc k) n f) f)
    (λ (f : 10 ≤ n). rw (width_in_more k n f, add-one, pow-suc) (omega arith))
    (one_or_more n)

-- none too many
pow-width-in-le : (k n : ℕ) → 0 < n → 10 ^ width_in k n ≤ 10 * n
unfolding width_in
pow-width-in-le zero n h = omega arith
pow-width-in-le (suc k) n h =
    ⊎_elim
    (λ (f : n < 10). rw (width_in_small (suc k) n f) (omega arith))
    (λ (f : 10 ≤ n).
    let ih : 10 ^ width_in k (n / 10) ≤ 10 * (n / 10) = pow-width-in-le k (n / 10) (omega arith) in
    rw (width_in_more k n f, add-one, pow-suc) (omega arith))
    (one_or_more n)

pub no_zero_leads : (n : ℕ) → 0 < n → 10 ^ width n ≤ 10 * n
no_zero_leads n h = pow-width-in-le 20 n h

-- and at least one
width_in_pos : (k n : ℕ) → 0 < width_in k n
unfolding width_in
width_in_pos zero n = omega arith
width_in_pos (suc k) n =
    ⊎_elim
    (λ (f : n < 10). rw (width_in_small (suc k) n f) (omega arith))
    (λ (f : 10 ≤ n). rw (width_in_more k n f) (omega arith))
    (one_or_more n)

-- ---- digits

numeral-digit : (d v : ℕ) (s : List ℕ) → d < 10 → numeral v ((48 + d) ∷ s) ≡ numeral (v * 10 + d) s
unfolding numeral
numeral-digit d v s h =
    let e : 48 + d - 48 ≡ d = omega arith in
    rw (le-leb 48 (48 + d) (omega arith), le-leb (48 + d) 57 (omega arith), e)

numeral_last_digits : (k n v : ℕ) → numeral v (last_digits k n) ≡ Some (v * 10 ^ k + n % 10 ^ k)
unfolding last_digits numeral
numeral_last_digits zero n v =
    let e : v * 10 ^ 0 + n % 10 ^ 0 ≡ v = omega (arith, mod-one n) in
    rw e
numeral_last_digits (suc k) n v =
    let d = n / 10 ^ k % 10 in
    let split : n % (10 * 10 ^ k) ≡ d * 10 ^ k + n % 10 ^ k = mod-mul n (omega arith) (one-le-pow k 10 (omega arith)) in
    let e : (v * 10 + d) * 10 ^ k + n % 10 ^ k ≡ v * (10 * 10 ^ k) + n % (10 * 10 ^ k) = omega arith in
    rw (pow-succ' 10 k)
    (numeral-digit d v (last_digits k n) (omega arith) ∙ numeral_last_digits k n (v * 10 + d) ∙ ap Some e)

digits-written : (most k n : ℕ) → 1 ≤ k → k ≤ most → digits_of most (last_digits k n) ≡ Some (n % 10 ^ k)
unfolding digits_of
digits-written most k n p q =
    let e : 0 * 10 ^ k + n % 10 ^ k ≡ n % 10 ^ k = omega arith in
    rw (last_digits_length k n, le-leb 1 k p, le-leb k most q) (numeral_last_digits k n 0 ∙ ap Some e)

free-digits : (b k n : ℕ) → b < 48 → free b (last_digits k n) ≡ true
unfolding last_digits
free-digits b zero n h = refl
free-digits b (suc k) n h = rw (ne_eqb (48 + n / 10 ^ k % 10) b (λ e. omega arith)) (free-digits b k n h)

-- ---- decimals

decimal_parts :
    (whole places : ℕ) (u t : List ℕ) {w f : ℕ} → free 46 u ≡ true → length t ≡ places → digits_of whole u ≡ Some w →
    digits_of places t ≡ Some f
    → decimal_of whole places (u ++ (46 ∷ t)) ≡ Some (w * 10 ^ places + f)
unfolding decimal_of fraction_of
decimal_parts whole places u t {w} {f} h k eu et =
    let z : places - length t ≡ 0 = omega arith in
    let e : f * 10 ^ 0 ≡ f = omega arith in
    rw (before_append 46 u h t, has-append 46 u h t, after-append 46 u h t, eu, et, z, e)

-- n units of 10 ^ -places, with so many digits before the point at most
module _ (whole places n : ℕ) where
  abbrev q : ℕ
  q = n / 10 ^ places

  pub decimal-written :
      0 < whole → whole ≤ 20 → 0 < places → q < 10 ^ whole →
      decimal_of whole places (decimal_text (with_places places false n)) ≡ Some n
  unfolding decimal_text
  decimal-written some-whole few some-places h =
      let large = lt_of_lt_of_le h (pow-le-pow_right {n = 10} (lit< tt) {i = whole} {j = 20} few) in
      let all : q % 10 ^ width q ≡ q = mod-eq_of_lt (lt_pow_width_in 20 q large) in
      let ones = digits-written whole (width q) q (width_in_pos 20 q) (width-le whole q some-whole h) ∙ ap Some all in
      let rest = digits-written places places n some-places (omega arith) in
      rw (append-nil (last_digits places n))
      (decimal_parts whole places (last_digits (width q) q) (last_digits places n) (free-digits 46 (width q) q (lit< tt))
      (last_digits_length places n) ones rest
      ∙ ap Some (div-add-mod' n (10 ^ places)))

pub thousandths-written : (n : ℕ) → n < 10 ^ 5 → thousandths_of (decimal_text (with_places 3 false n)) ≡ Some n
thousandths-written n h = decimal-written 2 3 n (omega arith) (omega arith) (omega arith) (omega arith)

pub free-minus : (b : ℕ) (minus : Bool) → free b (ascii "-") ≡ true → free b (minus_sign minus) ≡ true
free-minus b true h = h
free-minus b false h = refl

-- what is neither a digit nor the point nor the minus stands in no decimal
pub free-decimal :
    (b : ℕ) (d : Shown) → b < 48 → free b (ascii ".") ≡ true → free b (minus_sign d.minus) ≡ true →
    free b (decimal_text d) ≡ true
unfolding decimal_text
free-decimal b d h point minus =
    let places = last_digits d.places d.units ++ [] in
    free-append b (minus_sign d.minus) _ minus
    (free-append b (last_digits (width d.whole) d.whole) _ (free-digits b (width d.whole) d.whole h)
    (free-append b (ascii ".") places point
    (free-append b (last_digits d.places d.units) [] (free-digits b d.places d.units h) refl)))

millionths-written : (m : ℕ) → m < 10 ^ 9 → decimal_of 3 6 (decimal_text (with_places 6 false m)) ≡ Some m
millionths-written m h = decimal-written 3 6 m (omega arith) (omega arith) (omega arith) (omega arith)

pub signed-written :
    (b : Bool) (m : ℕ) → m < 10 ^ 9 → signed_of (decimal_text (with_places 6 b m)) ≡ Some (decimal_below b m)
unfolding signed_of starts_with decimal_text
signed-written true m h = rw (millionths-written m h)
signed-written false m h =
    rw (
      starts_false_of_free 45 (decimal_text (with_places 6 false m))
          (free-decimal 45 (with_places 6 false m) (lit< tt) refl refl),
      millionths-written m h,
    )
