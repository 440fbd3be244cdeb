-- Two points of whole numbers on one ray from the origin are the same point, or their distances from it differ by 1 or
-- more: so where the two roots, rounded down, are the same, the points are. Assumes nothing.
use Rattle.std.specs.Prelude.{◌≡◌, false, ℕ, zero, suc, ◌+◌, ◌-◌, ◌*◌, ◌≤◌, ◌<◌, ℤ, pos, negsuc, ◌+ℤ◌, ◌-ℤ◌, ◌*ℤ◌}
use Rattle.std.proofs.Common.{sym, ap, ◌∙◌, mul-le-mul, mul-le-mul_left, mul-le-mul_right, arith, le-ltb}
use Rattle.std.proofs.lemmas.Bool.{false≢true}
use Rattle.std.proofs.Math.Decide.{dec_le}
use Rattle.std.proofs.Math.IntN.{+ℤ_idl, -ℤ-+ℤ_cancel}
use Rattle.rounding.specs.Signed.{∣◌∣, minus}
use Rattle.rounding.proofs.Theorems.Signed.Difference.{IsDiff, above, below, over, under}
use Rattle.rounding.proofs.Theorems.Signed.Difference.{diff_same, diff_parts, diff_add, diff_mul}
use Rattle.rounding.proofs.Theorems.Signed.Laws.{abs-mul, zero_of_abs}
use Rattle.sheet.specs.Sheet.Apart.Ray.{Rooted}

-- ---- in magnitudes

pub le-square : (x : ℕ) → x ≤ x * x
le-square zero = omega arith
le-square (suc x) = omega arith

le_of_squares : (r m p w : ℕ) → r * r ≤ p → 1 ≤ w → m * m ≡ p * w → r ≤ m
le_of_squares r m p w low some is = either (dec_le r m)
  where
    either : Dec (r ≤ m) → r ≤ m
    either (yes h) = h
    either (no h) =
        let above : m + 1 ≤ r = omega arith in
        absurd (omega (arith, mul-le-mul above above, mul-le-mul_left p some))

-- from (x, y) outwards to (x + e, y + f), with e and f not both 0
longer :
    (x y e f r : ℕ) → x * f ≡ e * y → r * r ≤ x * x + y * y → 0 < e + f →
    (r + 1) * (r + 1) ≤ (x + e) * (x + e) + (y + f) * (y + f)
longer x y e f r ray low some = omega (arith, along, one)
  where
    one : 1 ≤ e * e + f * f
    one = omega (arith, le-square e, le-square f)

    along : r ≤ x * e + y * f
    along =
        le_of_squares r (x * e + y * f) (x * x + y * y) (e * e + f * f) low one
        (omega (arith, ap (λ (z : ℕ). z * (x * f)) ray, ap (λ (z : ℕ). z * (e * y)) ray))

module _ (r x y s t : ℕ) (ray : x * t ≡ s * y) (R : Rooted r x y) (T : Rooted r s t) where
  same_of_le : x ≤ s → y ≤ t → (x ≡ s) × (y ≡ t)
  same_of_le xs yt = either (dec_le (s + t) (x + y))
    where
      far : (e f : ℕ) → s ≡ x + e → t ≡ y + f → 0 < e + f → ⊥
      far e f es et some =
          let on : x * f ≡ e * y = omega (arith, ap (λ (z : ℕ). z * y) es, ap (λ (z : ℕ). x * z) et) in
          let out = longer x y e f r on R.low some in
          let in_reach = rw (es, et) at T.high in
          omega (arith, out, in_reach)

      either : Dec (s + t ≤ x + y) → (x ≡ s) × (y ≡ t)
      either (yes g) = (omega arith, omega arith)
      either (no g) = absurd (far (s - x) (t - y) (omega arith) (omega arith) (omega arith))

-- one of the two is not beyond the other, in x and in y
same_of_ray : (r x y s t : ℕ) → x * t ≡ s * y → Rooted r x y → Rooted r s t → (x ≡ s) × (y ≡ t)
same_of_ray r x y s t ray R T = either (dec_le x s) (dec_le y t)
  where
    back : s ≤ x → t ≤ y → (x ≡ s) × (y ≡ t)
    back h g = let e = same_of_le r s t x y (sym ray) T R h g in (sym e.0, sym e.1)

    either : Dec (x ≤ s) → Dec (y ≤ t) → (x ≡ s) × (y ≡ t)
    either (yes h) (yes g) = same_of_le r x y s t ray R T h g
    either (no h) (no g) = back (omega arith) (omega arith)
    either (yes h) (no g) =
        let above : t + 1 ≤ y = omega arith in
        back (omega (arith, mul-le-mul_left s above, mul-le-mul_right t h)) (omega arith)
    either (no h) (yes g) =
        let above : s + 1 ≤ x = omega arith in
        back (omega arith) (omega (arith, mul-le-mul_right t above, mul-le-mul_left s g))

-- ---- signs

pub eq_of_sub : (x y : ℤ) → ∣ x -ℤ y ∣ ≡ 0 → x ≡ y
eq_of_sub x y h = sym (-ℤ-+ℤ_cancel x y) ∙ ap (λ (z : ℤ). z +ℤ y) (zero_of_abs (x -ℤ y) h) ∙ +ℤ_idl y

not_minus : (n : ℕ) → minus (pos n) ≡ false
not_minus n = le-ltb n 0 (omega arith)

square_not_minus : (w : ℤ) → minus (w *ℤ w) ≡ false
square_not_minus (pos n) = not_minus (n * n)
square_not_minus (negsuc n) = not_minus (suc n * suc n)

le_of_not_minus : {a b : ℕ} {z : ℤ} → IsDiff a b z → minus z ≡ false → b ≤ a
le_of_not_minus (above m e) h = omega arith
le_of_not_minus (below m e) h = absurd (false≢true (sym h))

-- x y is not below 0
abbrev OneSign : (x y : ℤ) → Type 0
OneSign x y = over x * under y + under x * over y ≤ over x * over y + under x * under y

one_sign : (x y : ℤ) → minus (x *ℤ y) ≡ false → OneSign x y
one_sign x y h = le_of_not_minus (diff_mul (diff_parts x) (diff_parts y)) h

eq_of_abs : (x y : ℤ) → OneSign x y → ∣ x ∣ ≡ ∣ y ∣ → x ≡ y
eq_of_abs (pos m) (pos n) h e = ap pos e
eq_of_abs (negsuc m) (negsuc n) h e = ap negsuc (omega arith)
eq_of_abs (pos m) (negsuc n) h e = absurd (omega arith)
eq_of_abs (negsuc m) (pos n) h e = absurd (omega arith)

-- neither is below 0 where their sum is not
both_not_minus : (x y : ℤ) → OneSign x y → under x + under y ≤ over x + over y → (minus x ≡ false) × (minus y ≡ false)
both_not_minus (pos m) (pos n) h g = (not_minus m, not_minus n)
both_not_minus (negsuc m) (negsuc n) h g = absurd (omega arith)
both_not_minus (pos m) (negsuc n) h g = absurd (omega arith)
both_not_minus (negsuc m) (pos n) h g = absurd (omega arith)

product_exchanged : (a b c d : ℤ) → a *ℤ c *ℤ (b *ℤ d) ≡ a *ℤ d *ℤ (c *ℤ b)
product_exchanged a b c d =
    let p = diff_parts a in
    let q = diff_parts b in
    let r = diff_parts c in
    let s = diff_parts d in
    diff_same _ _ _ _ (omega arith) (diff_mul (diff_mul p r) (diff_mul q s)) (diff_mul (diff_mul p s) (diff_mul r q))

-- ---- two points (a, b) and (c, d): on one line through the origin, and on the same side of it
pub same_on_ray :
    (r : ℕ) (a b c d : ℤ) → a *ℤ d ≡ c *ℤ b → minus (a *ℤ c +ℤ b *ℤ d) ≡ false →
    Rooted r ∣ a ∣ ∣ b ∣ → Rooted r ∣ c ∣ ∣ d ∣ → (a ≡ c) × (b ≡ d)
same_on_ray r a b c d line side R T =
    let square : a *ℤ c *ℤ (b *ℤ d) ≡ c *ℤ b *ℤ (c *ℤ b) =
    product_exchanged a b c d ∙ ap (λ (z : ℤ). z *ℤ (c *ℤ b)) line in
    let products = one_sign (a *ℤ c) (b *ℤ d) (ap minus square ∙ square_not_minus (c *ℤ b)) in
    let sum = le_of_not_minus (diff_add (diff_parts (a *ℤ c)) (diff_parts (b *ℤ d))) side in
    let signs = both_not_minus (a *ℤ c) (b *ℤ d) products sum in
    let ray : ∣ a ∣ * ∣ d ∣ ≡ ∣ c ∣ * ∣ b ∣ = sym (abs-mul a d) ∙ ap (λ (z : ℤ). ∣ z ∣) line ∙ abs-mul c b in
    let e = same_of_ray r ∣ a ∣ ∣ b ∣ ∣ c ∣ ∣ d ∣ ray R T in
    (eq_of_abs a c (one_sign a c signs.0) e.0, eq_of_abs b d (one_sign b d signs.1) e.1)
