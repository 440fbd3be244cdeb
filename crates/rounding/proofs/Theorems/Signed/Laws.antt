-- What callers use of signed numbers: magnitudes, signs, quotients, what fits a signed type, and a unit k times
-- finer. Assumes nothing.
use Rattle.std.specs.Prelude.{◌≡◌, refl, Bool, true, false, ℕ, zero, suc, ◌+◌, ◌*◌, ◌/◌, ◌^◌, ◌≤◌, ◌<◌, T, ℤ, pos, negsuc, neg_ℤ, ◌+ℤ◌, ◌-ℤ◌, ◌*ℤ◌}
use Rattle.std.proofs.Common.{sym, ap, ◌∙◌, mul-pos, zero-lt-suc, arith, le-ltb}
use Rattle.std.proofs.Math.Path.{ap₂}
use Rattle.std.specs.Int.Signed.{non_neg}
use Rattle.std.specs.Int.{Width}
use mir.Val.{SFits, hbits}
use Rattle.rounding.specs.Signed.{∣◌∣, minus, signed, ◌·◌, ◌÷◌}
use Rattle.rounding.proofs.Theorems.Signed.Difference.{diff_same, diff_parts, diff_add, diff_sub, diff_mul, diff_abs}

-- ---- magnitudes

pub abs_neg : (x : ℤ) → ∣ neg_ℤ x ∣ ≡ ∣ x ∣
abs_neg (pos zero) = refl
abs_neg (pos (suc n)) = refl
abs_neg (negsuc n) = refl

pub abs-mul : (x y : ℤ) → ∣ x *ℤ y ∣ ≡ ∣ x ∣ * ∣ y ∣
abs-mul (pos a) (pos b) = refl
abs-mul (pos a) (negsuc b) = abs_neg (pos (a * suc b))
abs-mul (negsuc a) (pos b) = abs_neg (pos (suc a * b))
abs-mul (negsuc a) (negsuc b) = refl

pub abs-add-le : (x y : ℤ) → ∣ x +ℤ y ∣ ≤ ∣ x ∣ + ∣ y ∣
abs-add-le x y =
    omega (arith, diff_abs (diff_add (diff_parts x) (diff_parts y)), diff_abs (diff_parts x), diff_abs (diff_parts y))

pub abs-sub-le : (x y : ℤ) → ∣ x -ℤ y ∣ ≤ ∣ x ∣ + ∣ y ∣
abs-sub-le x y = omega (arith, abs-add-le x (neg_ℤ y), abs_neg y)

pub abs-signed : (below : Bool) (m : ℕ) → ∣ signed below m ∣ ≡ m
abs-signed true zero = refl
abs-signed true (suc m) = refl
abs-signed false m = refl

pub zero_of_abs : (z : ℤ) → ∣ z ∣ ≡ 0 → z ≡ pos 0
zero_of_abs (pos n) h = ap pos h
zero_of_abs (negsuc n) h = absurd (omega arith)

-- a number is its sign and its magnitude
pub signed-abs : (z : ℤ) → signed (minus z) ∣ z ∣ ≡ z
signed-abs (pos n) = ap (λ (b : Bool). signed b n) (le-ltb n 0 (omega arith))
signed-abs (negsuc n) = refl

-- ---- signs

-- z is not below 0 where the test says so
pub nonneg_of_not_minus : (z : ℤ) → minus z ≡ false → T (non_neg z)
nonneg_of_not_minus (pos n) e = tt
nonneg_of_not_minus (negsuc n) e = let z : ◌≡◌ {A = ℕ} 0 1 = cc in absurd (omega arith)

-- ---- products and sums

pub mul_add_ℤ : (x y z : ℤ) → x *ℤ (y +ℤ z) ≡ x *ℤ y +ℤ x *ℤ z
mul_add_ℤ x y z =
    let a = diff_parts x in
    let b = diff_parts y in
    let c = diff_parts z in
    diff_same _ _ _ _ (omega arith) (diff_mul a (diff_add b c)) (diff_add (diff_mul a b) (diff_mul a c))

-- ---- what a signed type of w bits holds

pub fits_of_abs : {w : Width} (z : ℤ) → ∣ z ∣ < 2 ^ hbits w → SFits w z
fits_of_abs (pos n) h = record { sfits = h }
fits_of_abs (negsuc n) h = record { sfits = omega arith }

-- ---- a unit k times finer: signs stay, differences and magnitudes scale

below_zero : (m : ℕ) → 0 < m → minus (neg_ℤ (pos m)) ≡ true
below_zero zero h = absurd (omega arith)
below_zero (suc m) h = refl

pub minus-scaled : (k : ℕ) (x : ℤ) → 0 < k → minus (k · x) ≡ minus x
minus-scaled k (pos n) h = le-ltb (k * n) 0 (omega arith) ∙ sym (le-ltb n 0 (omega arith))
minus-scaled k (negsuc n) h = below_zero (k * suc n) (mul-pos h (zero-lt-suc n))

pub sub-scaled : (k : ℕ) (x y : ℤ) → k · x -ℤ k · y ≡ k · (x -ℤ y)
sub-scaled k x y =
    let a = diff_parts (pos k) in
    let b = diff_parts x in
    let c = diff_parts y in
    diff_same _ _ _ _ (omega arith) (diff_sub (diff_mul a b) (diff_mul a c)) (diff_mul a (diff_sub b c))

pub abs-sub-scaled : (k : ℕ) (x y : ℤ) → ∣ k · x -ℤ k · y ∣ ≡ k * ∣ x -ℤ y ∣
abs-sub-scaled k x y = ap (λ (z : ℤ). ∣ z ∣) (sub-scaled k x y) ∙ abs-mul (pos k) (x -ℤ y)

-- ---- k z / d has the magnitude k |z| / d and the sign of z
module _ (k d : ℕ) (z : ℤ) (hk : 0 < k) where
  pub quotient_is : (k · z) ÷ d ≡ signed (minus z) (k * ∣ z ∣ / d)
  unfolding ◌÷◌
  quotient_is = ap₂ (λ (b : Bool) (m : ℕ). signed b (m / d)) (minus-scaled k z hk) (abs-mul (pos k) z)

  pub abs-quotient : ∣ (k · z) ÷ d ∣ ≡ k * ∣ z ∣ / d
  abs-quotient = ap (λ (y : ℤ). ∣ y ∣) quotient_is ∙ abs-signed (minus z) (k * ∣ z ∣ / d)
