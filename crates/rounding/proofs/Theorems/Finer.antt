-- What a unit k times finer does to a fraction and to a root, over every k, which is 2 ^ (n - 20) at n binary places,
-- and every exponent. It is proved here, once.
--
-- The step sheet over n (docs/SCOPE.md 2.3, crate `finer`) rests on `fraction-times`, and on `root-times` at the
-- exponent 2: each of its quantities is made of others that were rounded. The conversion over n (docs/SCOPE.md 5) is to
-- rest on `div_finer`, and on `root_finer` at the exponent 3: its f is the cube root of one fraction. Assumes nothing.
use Rattle.std.specs.Prelude.{◌≡◌, ℕ, zero, suc, ◌+◌, ◌*◌, ◌/◌, ◌^◌, ◌<◌}
use Rattle.std.proofs.Math.Nat.{div-zero}
use Rattle.std.proofs.Common.{mul-le-mul_left, zero-lt-suc, arith}
use Rattle.rounding.specs.Fraction.{LooseFraction, IsFraction, fraction_law, two_fractions_lt, some_divisor}
use Rattle.rounding.specs.Root.{root_of, LooseRoot, IsRoot, root_law, mul-pow}
use Rattle.rounding.proofs.Theorems.Root.Laws.{two_roots_lt}

-- A is a in a unit k times finer: not below a, and less than one old unit above it. So a is A / k, rounded down
abbrev pub Finer : (k a A : ℕ) → Type 0
Finer k a A = IsFraction A k a

-- nothing was rounded
pub exact_finer : {k a A : ℕ} → 0 < k → A ≡ k * a → Finer k a A
exact_finer some same = record { low = omega arith; high = omega arith }

-- ---- k times what was rounded down in the old unit is the fraction or root of the new one, rounded down by less than
-- k. What it is taken of, x and now X, may have been rounded down itself

pub fraction-times : (k d : ℕ) {x X q : ℕ} → Finer k x X → IsFraction x d q → LooseFraction k X d (k * q)
fraction-times k d finer h =
    record {
      low = omega (arith, mul-le-mul_left k h.low, finer.low);
      high = omega (arith, mul-le-mul_left k h.high, finer.high);
    }

pub root-times : (e k : ℕ) {x X r : ℕ} → Finer (k ^ e) x X → IsRoot e x r → LooseRoot e k X (k * r)
root-times e k {r = r} finer h =
    let next : k * r + k ≡ k * (r + 1) = omega arith in
    record {
      low = rw mul-pow (omega (arith, mul-le-mul_left (k ^ e) h.low, finer.low));
      high = rw (next, mul-pow) (omega (arith, mul-le-mul_left (k ^ e) h.high, finer.high));
    }

-- ---- rounded down in the old unit and in the new one: they are less than one old unit apart

finer_of_both : {k a A : ℕ} → k * a < A + 1 → A < k * a + k → Finer k a A
finer_of_both low high = record { low = omega arith; high = omega arith }

-- over 0 a fraction is 0 in every unit
pub div_finer : (d k : ℕ) {x X : ℕ} → Finer k x X → Finer k (x / d) (X / d)
div_finer zero k {x} {X} h = rw (div-zero x, div-zero X) (exact_finer (some_divisor h) (omega arith))
div_finer (suc d) k {x} {X} h =
    let new = fraction_law X (suc d) (zero-lt-suc d) in
    let old = fraction-times k (suc d) h (fraction_law x (suc d) (zero-lt-suc d)) in
    finer_of_both (two_fractions_lt old new) (two_fractions_lt new old)

pub root_finer : (e k : ℕ) {x X : ℕ} → 0 < e → Finer (k ^ e) x X → Finer k (root_of e x) (root_of e X)
root_finer e k {x} {X} some h =
    let new = root_law e X some in
    let old = root-times e k h (root_law e x some) in
    finer_of_both (two_roots_lt e old new) (two_roots_lt e new old)
