-- docs/SCOPE.md 7.4: THE TABLE'S RULE. The sine rises, the cosine falls, and the squares of a pair sum to 1 within
-- 0.00000003: one test, computed over all entries, and one lemma that has the rule at each from it. Assumes nothing.
use Rattle.std.specs.Prelude.{◌≡◌, refl, Bool, true, false, ◌&&◌, ℕ, zero, suc, ◌+◌, ◌*◌, ◌^◌, ◌≤◌, ◌<◌, leb, ltb, length}
use Rattle.std.proofs.Common.{sym, ap, ◌∙◌, ⊎_elim, not-suc-le-zero, le_of_suc-le-suc, eq-or-lt_of_le, le_of_eq, mul-le-mul, arith, leb-true, ltb-true, ltb-false}
use Rattle.std.proofs.lemmas.Bool.{false≢true}
use Rattle.angle.specs.Table.{cosines, sines, cosine, sine}

-- ---- one lemma: a test that holds of all numbers below n holds of each

abbrev pub every : (ℕ → Bool) → (n : ℕ) → Bool
every p zero = true
every p (suc n) = p n && every p n

both : (p q : Bool) → (p && q) ≡ true → (p ≡ true) × (q ≡ true)
both true q e = (refl, e)
both false q e = absurd (false≢true e)

every_at : (p : ℕ → Bool) (n : ℕ) → every p n ≡ true → (k : ℕ) → k < n → p k ≡ true
every_at p zero e k h = absurd (not-suc-le-zero h)
every_at p (suc n) e k h =
    let parts = both (p n) (every p n) e in
    ⊎_elim (λ (same : k ≡ n). ap p same ∙ parts.0) (λ (less : k < n). every_at p n parts.1 k less)
    (eq-or-lt_of_le (le_of_suc-le-suc h))

-- ---- one test, of an entry and the one before it

abbrev squares : ℕ → ℕ
squares k = cosine k * cosine k + sine k * sine k

abbrev onward : ℕ → Bool
onward zero = true
onward (suc k) = ltb (sine k) (sine (suc k)) && ltb (cosine (suc k)) (cosine k)

abbrev right : ℕ → Bool
right k =
    onward k && (leb (squares k) (10 ^ 16 + 3 * 10 ^ 8) && leb (10 ^ 16) (squares k + 3 * 10 ^ 8))

all_right : every right 91 ≡ true
unfolding cosines sines
all_right = refl

-- ---- THE RULE

pub record TableRule : Type 0 where
  pub sine_rises : (k : ℕ) → k < 90 → sine k < sine (suc k)
  pub cosine_falls : (k : ℕ) → k < 90 → cosine (suc k) < cosine k
  pub squares-most : (k : ℕ) → k ≤ 90 → cosine k * cosine k + sine k * sine k ≤ 10 ^ 16 + 3 * 10 ^ 8
  pub squares-least : (k : ℕ) → k ≤ 90 → 10 ^ 16 ≤ cosine k * cosine k + sine k * sine k + 3 * 10 ^ 8

module _ (k : ℕ) where
  onward_at : k < 90 → (ltb (sine k) (sine (suc k)) ≡ true) × (ltb (cosine (suc k)) (cosine k) ≡ true)
  onward_at h = both _ _ (both (onward (suc k)) _ (every_at right 91 all_right (suc k) (omega arith))).0

  one_at : k ≤ 90 → (leb (squares k) (10 ^ 16 + 3 * 10 ^ 8) ≡ true) × (leb (10 ^ 16) (squares k + 3 * 10 ^ 8) ≡ true)
  one_at h = both _ _ (both (onward k) _ (every_at right 91 all_right k (omega arith))).1

pub table-rule : TableRule
table-rule = record {
  sine_rises = λ k h. ltb-true _ _ (onward_at k h).0;
  cosine_falls = λ k h. ltb-true _ _ (onward_at k h).1;
  squares-most = λ k h. leb-true _ _ (one_at k h).0;
  squares-least = λ k h. leb-true _ _ (one_at k h).1;
}

-- ---- so the sine never falls, and the cosine never rises, from one entry to any later one

pub sine-le : (j k : ℕ) → j ≤ k → k ≤ 90 → sine j ≤ sine k
sine-le j zero h g = le_of_eq (ap sine (omega arith))
sine-le j (suc k) h g =
    ⊎_elim (λ (same : j ≡ suc k). le_of_eq (ap sine same))
    (λ (less : j < suc k). omega (arith, sine-le j k (le_of_suc-le-suc less) (omega arith), table-rule.sine_rises k g))
    (eq-or-lt_of_le h)

pub cosine_ge : (j k : ℕ) → j ≤ k → k ≤ 90 → cosine k ≤ cosine j
cosine_ge j zero h g = le_of_eq (ap cosine (omega arith))
cosine_ge j (suc k) h g =
    ⊎_elim (λ (same : j ≡ suc k). le_of_eq (ap cosine (sym same)))
    (λ (less : j < suc k).
    omega (arith, cosine_ge j k (le_of_suc-le-suc less) (omega arith), table-rule.cosine_falls k g))
    (eq-or-lt_of_le h)

-- ---- and every entry has 27 binary digits at most: a square of a longer number would pass the sum

root-lt : (m n : ℕ) → m * m + n ≤ 10 ^ 16 + 3 * 10 ^ 8 → m < 2 ^ 27
root-lt m n h = go (ltb m (2 ^ 27)) refl
  where
    go : (t : Bool) → ltb m (2 ^ 27) ≡ t → m < 2 ^ 27
    go true e = ltb-true m (2 ^ 27) e
    go false e = let long = ltb-false m (2 ^ 27) e in absurd (omega (arith, mul-le-mul long long))

pub sine-lt : (k : ℕ) → k ≤ 90 → sine k < 2 ^ 27
sine-lt k h = root-lt (sine k) (cosine k * cosine k) (omega (arith, table-rule.squares-most k h))

pub cosine-lt : (k : ℕ) → k ≤ 90 → cosine k < 2 ^ 27
cosine-lt k h = root-lt (cosine k) (sine k * sine k) (table-rule.squares-most k h)

-- ---- 91 entries each

pub sines-length : length sines ≡ 91
unfolding sines
sines-length = refl

pub cosines-length : length cosines ≡ 91
unfolding cosines
cosines-length = refl
