-- Section 1 of the argument: what the laws of `rounding` on fractions and roots, rounded down by less than K, come to
-- on the products of the sheet. Its roots are square roots. Assumes nothing.
use Rattle.std.specs.Prelude.{◌≡◌, ℕ, ◌+◌, ◌*◌, ◌≤◌, ◌<◌}
use Rattle.std.proofs.Common.{mul-le-mul, mul-pos, le_of_mul-le-mul_right, arith}
use Rattle.rounding.specs.Fraction.{LooseFraction, IsFraction, fraction_grown}
use Rattle.rounding.proofs.Theorems.Finer.{exact_finer, fraction-times, root-times}
use Rattle.rounding.specs.Root.{LooseRoot, IsRoot}
use Rattle.rounding.proofs.Theorems.Root.Laws.{lt_of_powers, sq}

-- ---- 1.1: a factor taken off, named so that `omega` may prove the product; 1.2: squares

pub le_of_mul_le : {x y : ℕ} (d : ℕ) → 0 < d → x * d ≤ y * d → x ≤ y
le_of_mul_le d some h = le_of_mul-le-mul_right h some

pub square_le : {x y : ℕ} → x ≤ y → x * x ≤ y * y
square_le h = mul-le-mul h h

pub le_of_square_le : {x y : ℕ} → x * x ≤ y * y → x ≤ y
le_of_square_le {x} {y} h =
    omega (arith, lt_of_powers 2 {x = y * y} {r = x} {s = y + 1} (rw sq h) (rw sq (omega arith)))

-- ---- in a unit K times finer. 1.3: d and p grow j times, and p K times more; 1.4: what a square root is taken of
-- grows K² times

pub fraction-scaled :
    (K j : ℕ) {p d q p' d' : ℕ} →
    0 < K → 0 < j → d' ≡ j * d → p' ≡ K * j * p → IsFraction p d q → LooseFraction K p' d' (K * q)
fraction-scaled K j some some-j of-d of-p h =
    rw of-d (fraction-times K _ (exact_finer some (omega arith)) (fraction_grown j some-j h))

pub root-scaled : (K : ℕ) {s r s' : ℕ} → 0 < K → s' ≡ K * K * s → IsRoot 2 s r → LooseRoot 2 K s' (K * r)
root-scaled K some of-s h = root-times 2 K (exact_finer (rw sq (mul-pos some some)) (rw sq of-s)) h
