-- Numbers come back from their bytes, and bytes from their numbers. Assumes nothing.
use Rattle.std.specs.Prelude.{◌≡◌, refl, Bool, true, false, [], ◌∷◌, ℕ, zero, suc, ◌+◌, ◌-◌, ◌*◌, ◌/◌, ◌%◌, ◌^◌, ◌≤◌, ◌<◌, ltb, ℤ, pos, negsuc}
use Rattle.std.proofs.Common.{sym, ap, ◌∙◌, div-add-mod', mod-eq_of_lt, arith, ltb-true, ltb-false, le-ltb}
use Rattle.std.proofs.Math.Nat.{div-div-eq-div-mul}
use Rattle.rounding.specs.Fraction.{div_unique}
use Rattle.rounding.specs.Signed.{∣◌∣, signed}
use Rattle.colour.specs.White.{number_of_white}
use Rattle.colour.specs.declared.white.White.{White}
use Rattle.colour.specs.declared.white.White.TheVariants.{D65Ten, D65Two, CTen, CTwo}
use Rattle.sheet.specs.Settings.{number_of_formula}
use Rattle.sheet.specs.declared.formula.Formula.{Formula}
use Rattle.sheet.specs.declared.formula.Formula.TheVariants.{CIELAB, CIE94, CMC}
use Rattle.station.specs.Record.{le2, le4, twos_of, of_twos}
use Rattle.station.specs.Record.Laws.{of_twos-low, of_twos-high, twos_of_below, twos_of_not_below}

sum_up :
    (n p q r a b c : ℕ) → p * 256 + a ≡ n → q * 256 + b ≡ p → r * 256 + c ≡ q →
    a + b * 256 + c * 65536 + r * 16777216 ≡ n
sum_up n p q r a b c x y z = omega arith

pub two_bytes : (n : ℕ) → n < 65536 → n % 256 + n / 256 % 256 * 256 ≡ n
two_bytes n h =
    let top : n / 256 % 256 ≡ n / 256 = mod-eq_of_lt (omega arith) in
    rw top (omega (arith, div-add-mod' n 256))

pub four_bytes :
    (n : ℕ) → n < 4294967296 → n % 256 + n / 256 % 256 * 256 + n / 65536 % 256 * 65536 + n / 16777216 % 256 * 16777216
    ≡ n
four_bytes n h =
    let p : n / 65536 ≡ n / 256 / 256 = sym (div-div-eq-div-mul n 256 256) in
    let q : n / 16777216 ≡ n / 256 / 256 / 256 = sym (div-div-eq-div-mul n 65536 256) ∙ ap (λ (k : ℕ). k / 256) p in
    let top : n / 16777216 % 256 ≡ n / 16777216 = mod-eq_of_lt (omega arith) in
    rw (top, p, q)
    (sum_up n (n / 256) (n / 256 / 256) (n / 256 / 256 / 256) (n % 256) (n / 256 % 256) (n / 256 / 256 % 256)
    (div-add-mod' n 256) (div-add-mod' (n / 256) 256) (div-add-mod' (n / 256 / 256) 256))

-- a byte with whatever comes above it
high-bytes : (a m : ℕ) → a < 256 → (a + m * 256) / 256 ≡ m
high-bytes a m h = sym (div_unique (a + m * 256) 256 m (omega arith) (record { low = omega arith; high = omega arith }))

low_byte : (a m : ℕ) → a < 256 → (a + m * 256) % 256 ≡ a
low_byte a m h = omega (arith, high-bytes a m h, div-add-mod' (a + m * 256) 256)

pub le2_back : (a b : ℕ) → a < 256 → b < 256 → le2 (a + b * 256) ≡ a ∷ b ∷ []
le2_back a b ha hb =
    let low = low_byte a b ha in
    let high : (a + b * 256) / 256 % 256 ≡ b = ap (λ (n : ℕ). n % 256) (high-bytes a b ha) ∙ mod-eq_of_lt hb in
    cc

-- four bytes, one within the other, are the least and the three above it
le4_nested :
    (a b c d : ℕ) → a < 256 → b < 256 → c < 256 → d < 256 → le4 (a + (b + (c + d * 256) * 256) * 256) ≡ a ∷ b ∷ c ∷ d
    ∷ []
le4_nested a b c d ha hb hc hd =
    let n : ℕ = a + (b + (c + d * 256) * 256) * 256 in
    let once : n / 256 ≡ b + (c + d * 256) * 256 = high-bytes a (b + (c + d * 256) * 256) ha in
    let twice : n / 65536 ≡ c + d * 256 =
    sym (div-div-eq-div-mul n 256 256) ∙ ap (λ (k : ℕ). k / 256) once ∙ high-bytes b (c + d * 256) hb in
    let thrice : n / 16777216 ≡ d =
    sym (div-div-eq-div-mul n 65536 256) ∙ ap (λ (k : ℕ). k / 256) twice ∙ high-bytes c d hc in
    rw (
      once,
      twice,
      thrice,
      low_byte a (b + (c + d * 256) * 256) ha,
      low_byte b (c + d * 256) hb,
      low_byte c d hc,
      mod-eq_of_lt hd,
    )

pub le4_back :
    (a b c d : ℕ) → a < 256 → b < 256 → c < 256 → d < 256 → le4 (a + b * 256 + c * 65536 + d * 16777216) ≡ a ∷ b ∷ c ∷ d
    ∷ []
le4_back a b c d ha hb hc hd =
    let same : a + b * 256 + c * 65536 + d * 16777216 ≡ a + (b + (c + d * 256) * 256) * 256 = omega arith in
    ap le4 same ∙ le4_nested a b c d ha hb hc hd

-- a grid number in 32 bits
pub of_twos_back : (z : ℤ) → ∣ z ∣ ≤ 2 ^ 28 → of_twos (twos_of z) ≡ z
of_twos_back (pos n) h = rw (twos_of_not_below (pos n) (le-ltb n 0 (omega arith))) (of_twos-low n (omega arith))
of_twos_back (negsuc n) h =
    let small : suc n % 2 ^ 32 ≡ suc n = mod-eq_of_lt (omega arith) in
    let back : 2 ^ 32 - (2 ^ 32 - suc n) ≡ suc n = omega arith in
    rw (twos_of_below (negsuc n) refl, small) (of_twos-high (2 ^ 32 - suc n) (omega arith) ∙ ap (signed true) back)

pub twos_of-lt : (z : ℤ) → ∣ z ∣ ≤ 2 ^ 28 → twos_of z < 4294967296
twos_of-lt (pos n) h = rw (twos_of_not_below (pos n) (le-ltb n 0 (omega arith))) (omega arith)
twos_of-lt (negsuc n) h =
    let small : suc n % 2 ^ 32 ≡ suc n = mod-eq_of_lt (omega arith) in
    rw (twos_of_below (negsuc n) refl, small) (omega arith)

twos_of-minus : (m n : ℕ) → m + n ≡ 2 ^ 32 → 0 < m → m ≤ 2 ^ 31 → twos_of (signed true m) ≡ n
twos_of-minus zero n e p h = absurd (omega arith)
twos_of-minus (suc m) n e p h =
    let small : suc m % 2 ^ 32 ≡ suc m = mod-eq_of_lt (omega arith) in
    twos_of_below (negsuc m) refl ∙ rw small (omega arith)

pub twos_of_back : (n : ℕ) → n < 2 ^ 32 → twos_of (of_twos n) ≡ n
twos_of_back n h = go (ltb n (2 ^ 31)) refl
  where
    go : (b : Bool) → ltb n (2 ^ 31) ≡ b → twos_of (of_twos n) ≡ n
    go true e = rw (of_twos-low n (ltb-true n (2 ^ 31) e)) (twos_of_not_below (pos n) (le-ltb n 0 (omega arith)))
    go false e =
        let high : 2 ^ 31 ≤ n = ltb-false n (2 ^ 31) e in
        rw (of_twos-high n high) (twos_of-minus (2 ^ 32 - n) n (omega arith) (omega arith) (omega arith))

-- formulas and whites
pub formula_byte : (f : Formula) → number_of_formula f % 256 ≡ number_of_formula f
formula_byte CIELAB = refl
formula_byte CIE94 = refl
formula_byte CMC = refl

pub white_byte : (w : White) → number_of_white w % 256 ≡ number_of_white w
white_byte D65Ten = refl
white_byte D65Two = refl
white_byte CTen = refl
white_byte CTwo = refl
