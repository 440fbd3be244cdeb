-- What callers use of sums and means: how large they are, that a mean is no greater in magnitude than the numbers are,
-- that their order does not matter, and that equal numbers have themselves for a mean. Assumes nothing.
use Rattle.std.specs.Prelude.{◌≡◌, refl, false, ℕ, suc, ◌+◌, ◌*◌, ◌≤◌, ◌<◌, ℤ, pos, negsuc, ◌+ℤ◌, length}
use Rattle.std.proofs.Common.{sym, ap, ap₂, ◌∙◌, true≢false, zero-le, mul_comm, arith, le-ltb}
use mathlib.Core.List.{List, [], ◌∷◌, ◌++◌, Permᴰ}
use Rattle.std.proofs.Math.IntN.{+ℤ_comm, +ℤ_assoc, zero-*ℤ, suc_ℤ-*ℤ}
use Rattle.rounding.specs.Every.{Every, none, more}
use Rattle.rounding.specs.Nearest.{nearest_up, rounded}
use Rattle.rounding.proofs.Theorems.Nearest.Laws.{Closest, closest, nearest-le, nearest_whole}
use Rattle.rounding.specs.Signed.{∣◌∣, minus, ◌·◌}
use Rattle.rounding.proofs.Theorems.Signed.Laws.{abs-add-le, abs-mul, abs-signed, signed-abs, minus-scaled}
use Rattle.rounding.specs.Mean.{sum, mean_of, mean}

-- ---- sums

pub sum_more : (us : List ℤ) (v : ℤ) → sum (us ++ (v ∷ [])) ≡ sum us +ℤ v
unfolding sum
sum_more [] v = +ℤ_comm v (pos 0)
sum_more (u ∷ us) v = ap (λ (z : ℤ). u +ℤ z) (sum_more us v) ∙ sym (+ℤ_assoc u (sum us) v)

-- numbers at most m in magnitude have a sum of at most m for each
pub sum-le : (m : ℕ) {zs : List ℤ} → Every (λ (z : ℤ). ∣ z ∣ ≤ m) zs → ∣ sum zs ∣ ≤ m * length zs
unfolding sum
sum-le m none = zero-le
sum-le m (more {x = z} {xs = zs} h hs) = omega (arith, sum-le m hs, abs-add-le z (sum zs))

-- numbers that are not below 0 have a sum that is not
pub sum_not_minus : {zs : List ℤ} → Every (λ (z : ℤ). minus z ≡ false) zs → minus (sum zs) ≡ false
unfolding sum
sum_not_minus none = refl
sum_not_minus (more {x = z} {xs = zs} h hs) = go z (sum zs) h (sum_not_minus hs)
  where
    go : (x y : ℤ) → minus x ≡ false → minus y ≡ false → minus (x +ℤ y) ≡ false
    go (pos a) (pos b) p q = le-ltb (a + b) 0 zero-le
    go (pos a) (negsuc b) p q = absurd (true≢false q)
    go (negsuc a) y p q = absurd (true≢false p)

-- equal numbers
pub sum_same : (v : ℤ) {zs : List ℤ} → Every (λ (z : ℤ). z ≡ v) zs → sum zs ≡ length zs · v
unfolding sum
sum_same v none = sym (zero-*ℤ v)
sum_same v (more {xs = zs} e es) =
    ap₂ ◌+ℤ◌ e (sum_same v es) ∙ +ℤ_comm v (length zs · v) ∙ sym (suc_ℤ-*ℤ (pos (length zs)) v)

-- the order does not matter
pub sum_perm : {us vs : List ℤ} → Permᴰ us vs → sum us ≡ sum vs
unfolding sum
sum_perm Permᴰ.nil = refl
sum_perm (Permᴰ.cons e d) = ap₂ ◌+ℤ◌ e (sum_perm d)
sum_perm (Permᴰ.swap {a} {b} {a'} {b'} {l} e₁ e₂) =
    sym (+ℤ_assoc a b (sum l)) ∙ ap (λ (z : ℤ). z +ℤ sum l) (+ℤ_comm a b) ∙ +ℤ_assoc b a (sum l)
    ∙ ap₂ (λ (y z : ℤ). y +ℤ (z +ℤ sum l)) e₂ e₁
sum_perm (Permᴰ.trans d₁ d₂) = sum_perm d₁ ∙ sum_perm d₂

pub length_perm : {A : Type 0} {us vs : List A} → Permᴰ us vs → length us ≡ length vs
length_perm Permᴰ.nil = refl
length_perm (Permᴰ.cons e d) = ap suc (length_perm d)
length_perm (Permᴰ.swap e₁ e₂) = refl
length_perm (Permᴰ.trans d₁ d₂) = length_perm d₁ ∙ length_perm d₂

-- ---- means

-- the magnitude rounded, the sign put back
pub mean_by : (z : ℤ) (n : ℕ) {r : ℤ} {m : ℕ} → m ≡ ∣ z ∣ → r ≡ rounded (minus z) m n → r ≡ mean_of z n
mean_by z n e h = h ∙ ap (λ (m : ℕ). rounded (minus z) m n) e

-- in magnitude the mean is as near to the sum over the count as a whole number can be, and in a tie the greater
pub mean-closest : (zs : List ℤ) → 0 < length zs → Closest ∣ sum zs ∣ (length zs) ∣ mean zs ∣
mean-closest zs some =
    rw (abs-signed (minus (sum zs)) (nearest_up ∣ sum zs ∣ (length zs))) (closest ∣ sum zs ∣ (length zs) some)

-- numbers at most m in magnitude have such a mean
pub mean-le : (m : ℕ) {zs : List ℤ} → 0 < length zs → Every (λ (z : ℤ). ∣ z ∣ ≤ m) zs → ∣ mean zs ∣ ≤ m
mean-le m {zs} some h =
    rw (abs-signed (minus (sum zs)) (nearest_up ∣ sum zs ∣ (length zs)))
    (nearest-le ∣ sum zs ∣ (length zs) m some (sum-le m h))

-- and those that are not below 0 one that is not
pub mean_not_minus : {zs : List ℤ} → Every (λ (z : ℤ). minus z ≡ false) zs → minus (mean zs) ≡ false
mean_not_minus {zs} h = rw (sum_not_minus h) (le-ltb (nearest_up ∣ sum zs ∣ (length zs)) 0 zero-le)

-- EQUAL NUMBERS HAVE THEMSELVES FOR A MEAN
pub mean_same : (v : ℤ) {zs : List ℤ} → 0 < length zs → Every (λ (z : ℤ). z ≡ v) zs → mean zs ≡ v
mean_same v {zs} some h = rw (sum_same v h, minus-scaled (length zs) v some, size) (signed-abs v)
  where
    size : nearest_up ∣ length zs · v ∣ (length zs) ≡ ∣ v ∣
    size =
        ap (λ (a : ℕ). nearest_up a (length zs)) (abs-mul (pos (length zs)) v ∙ mul_comm (length zs) ∣ v ∣)
        ∙ nearest_whole ∣ v ∣ (length zs) some

-- THE ORDER DOES NOT MATTER TO THE MEAN
pub mean_perm : {us vs : List ℤ} → Permᴰ us vs → mean us ≡ mean vs
mean_perm d = rw (sum_perm d, length_perm d)
