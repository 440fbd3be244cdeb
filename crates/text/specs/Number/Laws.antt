-- What proofs go by of the numbers of Number.antt. Assumes nothing.
use Rattle.std.specs.Prelude.{ℕ, ◌+◌, ◌-◌, ◌*◌, ◌^◌, ◌≤◌, ◌<◌, ◌≡◌, refl, Bool, true, false, cond, ◌&&◌, List, [], ◌∷◌, leb, length, take, drop, get_or, Option, None, Some, option_map}
use Rattle.std.proofs.Common.{sym, ap, ◌∙◌, lit<, drop_of_length-le, pow-add, drop-cons, arith, pow-suc, mul-le-mul_right, mul-le-mul_left, mul-lt-mul_of_pos_right}
use Rattle.std.proofs.lemmas.Option.{none-some, same_Some}
use Rattle.std.specs.Char.{is_ascii_digit}
use Rattle.std.proofs.Math.Nat.{pow-succ', pow-le-pow_right}
use Rattle.std.proofs.Math.Numerals.{add-one}
use borrow.Author.Tests.{lt-ltb, le-ltb, le-leb, lt-leb, leb-true}
use Rattle.colour.proofs.Theorems.Conversion.Laws.{both_true}
use Rattle.text.specs.Ascii.{ascii}
use Rattle.text.specs.Bytes.{has, before, after, starts_with}
use Rattle.text.specs.Bytes.Laws.{Found, drop_is}
use Rattle.text.specs.Number.{numeral, digits_of, fraction_of, both, decimal_of, decimal_below, signed_of}

-- ---- digits, for a loop that has come to index i with v

module _ (v : ℕ) (s : List ℕ) (i : ℕ) where
  pub numeral_more :
      i < length s → is_ascii_digit (get_or s i 0) ≡ true →
      numeral v (drop i s) ≡ numeral (v * 10 + (get_or s i 0 - 48)) (drop (i + 1) s)
  unfolding numeral
  numeral_more h e = rw (drop-cons s i 0 h, e, add-one i)

  pub numeral-next :
      i < length s → 48 ≤ get_or s i 0 → get_or s i 0 ≤ 57 →
      numeral v (drop i s) ≡ numeral (v * 10 + (get_or s i 0 - 48)) (drop (i + 1) s)
  numeral-next h p q = numeral_more h (rw (le-leb _ _ p, le-leb _ _ q))

  pub numeral_none : i < length s → is_ascii_digit (get_or s i 0) ≡ false → numeral v (drop i s) ≡ None
  unfolding numeral
  numeral_none h e = rw (drop-cons s i 0 h, e)

  pub numeral_none_of_low : i < length s → get_or s i 0 < 48 → numeral v (drop i s) ≡ None
  numeral_none_of_low h p = numeral_none h (rw (lt-leb _ _ p))

  pub numeral_none_of_high : i < length s → 48 ≤ get_or s i 0 → 57 < get_or s i 0 → numeral v (drop i s) ≡ None
  numeral_none_of_high h p q = numeral_none h (rw (le-leb _ _ p, lt-leb _ _ q))

  pub numeral_end : length s ≤ i → numeral v (drop i s) ≡ Some v
  unfolding numeral
  numeral_end h = rw (drop_of_length-le s {i = i} h)

-- a digit's value
pub digit_le : (b : ℕ) → is_ascii_digit b ≡ true → b - 48 ≤ 9
digit_le b e = omega (arith, leb-true _ _ (both_true (leb 48 b) (leb b 57) e).1)

pub digit_more : (v d i : ℕ) → v < 10 ^ i → d ≤ 9 → v * 10 + d < 10 ^ (i + 1)
digit_more v d i h k = rw (add-one i, pow-suc 10 i) (omega arith)

pub five-digits-lt : (v i : ℕ) → v < 10 ^ i → i ≤ 5 → v < 100000
five-digits-lt v i h k = omega (arith, pow-le-pow_right {n = 10} (lit< tt) {i = i} {j = 5} k)

module _ (most : ℕ) (s : List ℕ) where
  pub digits-numeral : 1 ≤ length s → length s ≤ most → digits_of most s ≡ numeral 0 s
  unfolding digits_of
  digits-numeral p q = rw (le-leb _ _ p, le-leb _ _ q)

  pub digits_none_of_short : length s < 1 → digits_of most s ≡ None
  unfolding digits_of
  digits_none_of_short p = rw (lt-leb _ _ p)

  pub digits_none_of_long : 1 ≤ length s → most < length s → digits_of most s ≡ None
  unfolding digits_of
  digits_none_of_long p q = rw (le-leb _ _ p, lt-leb _ _ q)

-- ---- bounds

some_only : (b : Bool) (n : Option ℕ) {w : ℕ} → cond b n None ≡ Some w → (b ≡ true) × (n ≡ Some w)
some_only true n e = (refl, e)
some_only false n e = absurd (let z : ◌≡◌ {A = ℕ} 0 1 = cc in omega arith)

numeral-lt : (s : List ℕ) (v : ℕ) {w : ℕ} → numeral v s ≡ Some w → w < (v + 1) * 10 ^ length s
unfolding numeral
numeral-lt [] v {w} e =
    let h : v ≡ w = cc in
    omega arith
numeral-lt (d ∷ s) v {w} e =
    let g = some_only (leb 48 d && leb d 57) (numeral (v * 10 + (d - 48)) s) e in
    let k : d ≤ 57 = leb-true _ _ (both_true (leb 48 d) (leb d 57) g.0).1 in
    let ih : w < (v * 10 + (d - 48) + 1) * 10 ^ length s = numeral-lt s (v * 10 + (d - 48)) g.1 in
    let m : (v * 10 + (d - 48) + 1) * 10 ^ length s ≤ ((v + 1) * 10) * 10 ^ length s =
    mul-le-mul_right (10 ^ length s) (omega arith) in
    omega (arith, ap (λ (k : ℕ). (v + 1) * k) (pow-succ' 10 (length s)))

pub ten-pos : (k : ℕ) → 0 < 10 ^ k
ten-pos k = omega (arith, pow-le-pow_right {n = 10} (lit< tt) {i = 0} {j = k} (omega arith))

pub record Digits (most : ℕ) (s : List ℕ) (w : ℕ) : Type 0 where
  pub small : w < 10 ^ length s
  pub few : length s ≤ most

pub digits_lt : (most : ℕ) (s : List ℕ) {w : ℕ} → digits_of most s ≡ Some w → Digits most s w
unfolding digits_of
digits_lt most s {w} e =
    let g = some_only (leb 1 (length s) && leb (length s) most) (numeral 0 s) e in
    let u = both_true (leb 1 (length s)) (leb (length s) most) g.0 in
    record { small = omega (arith, numeral-lt s 0 g.1); few = leb-true _ _ u.1 }

-- ---- a decimal's parts, by what the code has of them

module _ (places : ℕ) (s : List ℕ) {i : ℕ} (f : Found 46 s i) where
  pub fraction-zero : length s ≤ i → Some 0 ≡ fraction_of places s
  unfolding fraction_of
  fraction-zero h = rw (← f.first, le-ltb _ _ h)

  pub fraction_is :
      i < length s → {t : List ℕ} → t ≡ after 46 s → {o p : Option ℕ} → o ≡ digits_of places t → o ≡ p
      → option_map (λ d. d * 10 ^ (places - length t)) p ≡ fraction_of places s
  unfolding fraction_of
  fraction_is h et eo ep = rw (← f.first, lt-ltb _ _ h, ← et, ← eo, ep)

scaled-lt : (places : ℕ) (t : List ℕ) {d : ℕ} → digits_of places t ≡ Some d → d * 10 ^ (places - length t) < 10 ^ places
scaled-lt places t {d} e =
    let b = digits_lt places t e in
    let m : d * 10 ^ (places - length t) < 10 ^ length t * 10 ^ (places - length t) =
    mul-lt-mul_of_pos_right b.small (ten-pos (places - length t)) in
    let q : 10 ^ length t * 10 ^ (places - length t) ≡ 10 ^ places =
    sym (pow-add 10 (length t) (places - length t)) ∙ ap (λ (k : ℕ). 10 ^ k) (omega arith) in
    omega arith

cond-lt :
    (b : Bool) {o : Option ℕ} {y k : ℕ} → ((d : ℕ) → o ≡ Some d → d < k) → 0 < k → cond b o (Some 0) ≡ Some y → y < k
cond-lt true h z e = h _ e
cond-lt false {y = y} h z e =
    let g : 0 ≡ y = cc in
    omega arith

pub of_map : {A B : Type 0} (f : A → B) (o : Option A) {y : B} → option_map f o ≡ Some y → (x : A) × (o ≡ Some x) × (f x ≡ y)
of_map f None e = absurd (none-some _ e)
of_map f (Some x) e = (x, refl, same_Some _ _ e)

fraction-lt : (places : ℕ) (s : List ℕ) {y : ℕ} → fraction_of places s ≡ Some y → y < 10 ^ places
unfolding fraction_of
fraction-lt places s {y} e =
    let t = after 46 s in
    cond-lt (has 46 s)
    (λ d g.
    let m = of_map (λ d. d * 10 ^ (places - length t)) (digits_of places t) g in
    omega (arith, scaled-lt places t m.1, m.2))
    (ten-pos places) e

pub decimal_is :
    (whole places : ℕ) (s : List ℕ) {u : List ℕ} → u ≡ before 46 s → {o p : Option ℕ} → o ≡ digits_of whole u → o ≡ p
    → {g h : Option ℕ} → g ≡ fraction_of places s → g ≡ h →
    both (λ v d. v * 10 ^ places + d) p h ≡ decimal_of whole places s
unfolding decimal_of
decimal_is whole places s eu eo ep eg eh = rw (← eu, ← eo, ep, ← eg, eh)

-- ---- three digits and six places are small

pub moved-lt :
    (places : ℕ) (t : List ℕ) {d q : ℕ} → places ≤ 6 → digits_of places t ≡ Some d → q ≡ 10 ^ (places - length t) →
    d * q < 1000000
moved-lt places t {d} h e k =
    omega (
      arith,
      scaled-lt places t e,
      ap (λ (z : ℕ). d * z) k,
      pow-le-pow_right {n = 10} (lit< tt) {i = places}
          {j = 6} h,
    )

pub fraction_lt_million : (places : ℕ) (s : List ℕ) {y : ℕ} → places ≤ 6 → fraction_of places s ≡ Some y → y < 1000000
fraction_lt_million places s h e =
    omega (arith, fraction-lt places s e, pow-le-pow_right {n = 10} (lit< tt) {i = places} {j = 6} h)

pub record Sizes (whole places : ℕ) : Type 0 where
  pub few-digits : whole ≤ 3
  pub few-places : places ≤ 6

pub scaled_whole_le :
    (whole places : ℕ) (u : List ℕ) {x q : ℕ} → Sizes whole places → digits_of whole u ≡ Some x → q ≡ 10 ^ places →
    x * q ≤ 999000000
scaled_whole_le whole places u {x} h e k =
    let b = digits_lt whole u e in
    let small : x < 1000 = omega (arith, pow-le-pow_right {n = 10} (lit< tt) {i = length u} {j = 3} (omega arith)) in
    let m : x * 10 ^ places ≤ x * 1000000 =
    mul-le-mul_left x (pow-le-pow_right {n = 10} (lit< tt) {i = places} {j = 6} h.few-places) in
    omega (arith, ap (λ (z : ℕ). x * z) k)

-- ---- a minus, or none

-- whether a minus stands before, and what is left without it
pub record Unsigned (s : List ℕ) (below : Bool) (u : List ℕ) : Type 0 where
  pub sign : starts_with (ascii "-") s ≡ below
  pub rest : u ≡ cond below (drop 1 s) s

pub signed_is :
    (s : List ℕ) {u : List ℕ} (below : Bool) → Unsigned s below u → {o p : Option ℕ} → o ≡ decimal_of 3 6 u → o ≡ p →
    option_map (decimal_below below) p ≡ signed_of s
unfolding signed_of
signed_is s true h eo ep = rw (h.sign, ← h.rest, ← eo, ep)
signed_is s false h eo ep = rw (h.sign, ← h.rest, ← eo, ep)

module _ (s : List ℕ) {b : Bool} (e : b ≡ starts_with (ascii "-") s) where
  pub signed_below :
      b ≡ true → {o p : Option ℕ} → o ≡ decimal_of 3 6 (take (length s - 1) (drop 1 s)) → o ≡ p →
      option_map (decimal_below true) p ≡ signed_of s
  signed_below h eo ep = signed_is s true (record { sign = sym e ∙ h; rest = drop_is s 1 }) eo ep

  pub signed_above :
      b ≡ false → {o p : Option ℕ} → o ≡ decimal_of 3 6 s → o ≡ p → option_map (decimal_below false) p ≡ signed_of s
  signed_above h eo ep = signed_is s false (record { sign = sym e ∙ h; rest = refl }) eo ep
