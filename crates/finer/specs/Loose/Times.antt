-- Section 2, the exact numbers of two colours on a grid K times finer: coordinates grow K times, squares K² times,
-- and neither the signs, nor whether the hue is the same, nor the form of T, change. Assumes nothing.
use Rattle.std.specs.Prelude.{◌≡◌, refl, Bool, not, ◌&&◌, ◌⊎◌, ℕ, ◌+◌, ◌-◌, ◌*◌, ◌^◌, ◌<◌, eqb, ℤ, pos, ◌*ℤ◌}
use Rattle.std.proofs.Math.Path.{sym, ap, ap₂}
use Rattle.std.proofs.Common.{◌∙◌, inl, inr, mul-pos, eq-zero-or-pos, arith, eq-eqb, ne_eqb}
use Rattle.std.proofs.Math.Bool.{true, false, ◌||◌}
use Rattle.std.proofs.Math.Nat.{mul-sub}
use Rattle.std.proofs.Math.IntN.{◌+ℤ◌, ◌-ℤ◌}
use Rattle.rounding.specs.Signed.{∣◌∣, square, minus, ◌·◌}
use Rattle.rounding.proofs.Theorems.Signed.Difference.{diff_same, diff_parts, diff_mul}
use Rattle.rounding.proofs.Theorems.Signed.Laws.{abs-mul, mul_add_ℤ, minus-scaled, sub-scaled, abs-sub-scaled}
use Rattle.colour.specs.declared.conversion.GridColour.{GridColour}
use Rattle.colour.specs.Conversion.{Lab, at_places}
use Rattle.colour.proofs.Theorems.Conversion.Places.{units}
use Rattle.sheet.specs.Sheet.{distance², change, cross, dot, same_hue, second_form, hue_m}

-- a colour in a unit K times finer
abbrev pub finer_by : (K : ℕ) → Lab → Lab
finer_by K c = record { L = K * c.L; a = K · c.a; b = K · c.b }

pub at_places-finer_by : (n : ℕ) (c : GridColour) → at_places n c ≡ finer_by (2 ^ (n - 20)) (units c)
unfolding at_places
at_places-finer_by n c = refl

module _ (K : ℕ) where
  pub square-times : (a : ℤ) → square (K · a) ≡ K * K * square a
  square-times a = rw abs-mul (omega arith)

  pub squares-times : (a b : ℤ) → square (K · a) + square (K · b) ≡ K * K * (square a + square b)
  squares-times a b = omega (arith, square-times a, square-times b)

  pub change-times : (R T : ℕ) → ∣ change (K * R) (K * T) ∣ ≡ K * ∣ change R T ∣
  change-times R T = abs-sub-scaled K (pos T) (pos R)

  distance²-times : (a_r b_r a_t b_t : ℤ) → distance² (K · a_r) (K · b_r) (K · a_t) (K · b_t) ≡ K * K * distance² a_r b_r a_t b_t
  unfolding distance²
  distance²-times a_r b_r a_t b_t = rw (sub-scaled K a_t a_r, sub-scaled K b_t b_r) (squares-times (a_t -ℤ a_r) (b_t -ℤ b_r))

  -- what line 2 takes the root of
  pub excess_times :
      (a_r b_r a_t b_t : ℤ) (m : ℕ) →
      distance² (K · a_r) (K · b_r) (K · a_t) (K · b_t) - K * m * (K * m) ≡ K * K * (distance² a_r b_r a_t b_t - m * m)
  excess_times a_r b_r a_t b_t m =
      let same : K * m * (K * m) ≡ K * K * (m * m) = omega arith in
      rw (distance²-times, mul-sub, same)

  -- ---- line 6

  mul-times : (k : ℕ) (z : ℤ) → k · (K · z) ≡ K · (k · z)
  mul-times k z =
      let p = diff_parts (pos k) in
      let q = diff_parts (pos K) in
      let r = diff_parts z in
      diff_same _ _ _ _ (omega arith) (diff_mul p (diff_mul q r)) (diff_mul q (diff_mul p r))

  sum-times : (p q : ℕ) (a b : ℤ) → p · (K · a) +ℤ q · (K · b) ≡ K · (p · a +ℤ q · b)
  sum-times p q a b = ap₂ ◌+ℤ◌ (mul-times p a) (mul-times q b) ∙ sym (mul_add_ℤ (pos K) (p · a) (q · b))

  less-times : (p q : ℕ) (a b : ℤ) → p · (K · a) -ℤ q · (K · b) ≡ K · (p · a -ℤ q · b)
  less-times p q a b = ap₂ ◌-ℤ◌ (mul-times p a) (mul-times q b) ∙ sub-scaled K (p · a) (q · b)

  pub hue_m-times : (second : Bool) (a b : ℤ) → hue_m second (K · a) (K · b) ≡ K * hue_m second a b
  unfolding hue_m
  hue_m-times false a b =
      ap (λ (z : ℤ). ∣ z ∣) (less-times 81915204 57357644 a b) ∙ abs-mul (pos K) (81915204 · a -ℤ 57357644 · b)
  hue_m-times true a b =
      ap (λ (z : ℤ). ∣ z ∣) (sum-times 97814760 20791169 a b) ∙ abs-mul (pos K) (97814760 · a +ℤ 20791169 · b)

  pub second_form-times : (a b : ℤ) → 0 < K → second_form (K · a) (K · b) ≡ second_form a b
  unfolding second_form
  second_form-times a b some = ap₂ ◌||◌ (sum-sign 27563736 96126170) (sum-sign 25881905 96592583)
    where
      sum-sign : (p q : ℕ) → minus (p · (K · a) +ℤ q · (K · b)) ≡ minus (p · a +ℤ q · b)
      sum-sign p q = ap minus (sum-times p q a b) ∙ minus-scaled K (p · a +ℤ q · b) some

  -- ---- line 2

  product-times : (x y : ℤ) → (K · x) *ℤ (K · y) ≡ (K * K) · (x *ℤ y)
  product-times x y =
      let k = diff_parts (pos K) in
      let p = diff_parts x in
      let q = diff_parts y in
      let k² = diff_parts (pos (K * K)) in
      diff_same _ _ _ _ (omega arith) (diff_mul (diff_mul k p) (diff_mul k q)) (diff_mul k² (diff_mul p q))

  cross-times : (a_r b_r a_t b_t : ℤ) → cross (K · a_r) (K · b_r) (K · a_t) (K · b_t) ≡ (K * K) · cross a_r b_r a_t b_t
  unfolding cross
  cross-times a_r b_r a_t b_t =
      ap₂ ◌-ℤ◌ (product-times a_r b_t) (product-times a_t b_r) ∙ sub-scaled (K * K) (a_r *ℤ b_t) (a_t *ℤ b_r)

  dot-times : (a_r b_r a_t b_t : ℤ) → dot (K · a_r) (K · b_r) (K · a_t) (K · b_t) ≡ (K * K) · dot a_r b_r a_t b_t
  unfolding dot
  dot-times a_r b_r a_t b_t =
      ap₂ ◌+ℤ◌ (product-times a_r a_t) (product-times b_r b_t) ∙ sym (mul_add_ℤ (pos (K * K)) (a_r *ℤ a_t) (b_r *ℤ b_t))

pub eqb-zero-times : (k m : ℕ) → 0 < k → eqb (k * m) 0 ≡ eqb m 0
eqb-zero-times k m some = either (eq-zero-or-pos m)
  where
    either : (m ≡ 0) ⊎ (0 < m) → eqb (k * m) 0 ≡ eqb m 0
    either (inl e) = eq-eqb (k * m) 0 (rw e (omega arith)) ∙ sym (eq-eqb m 0 e)
    either (inr g) = let p = mul-pos some g in ne_eqb (k * m) 0 (λ e. omega arith) ∙ sym (ne_eqb m 0 (λ e. omega arith))

pub same_hue-times :
    (K : ℕ) → 0 < K → (a_r b_r a_t b_t : ℤ) →
    same_hue (cross (K · a_r) (K · b_r) (K · a_t) (K · b_t)) (dot (K · a_r) (K · b_r) (K · a_t) (K · b_t))
    ≡ same_hue (cross a_r b_r a_t b_t) (dot a_r b_r a_t b_t)
unfolding same_hue
same_hue-times K some a_r b_r a_t b_t =
    rw (cross-times K a_r b_r a_t b_t, dot-times K a_r b_r a_t b_t) (ap₂ (λ (p q : Bool). p && not q) zero sign)
  where
    x : ℤ
    x = cross a_r b_r a_t b_t

    y : ℤ
    y = dot a_r b_r a_t b_t

    zero : eqb ∣ (K * K) · x ∣ 0 ≡ eqb ∣ x ∣ 0
    zero = ap (λ (m : ℕ). eqb m 0) (abs-mul (pos (K * K)) x) ∙ eqb-zero-times (K * K) ∣ x ∣ (mul-pos some some)

    sign : minus ((K * K) · y) ≡ minus y
    sign = minus-scaled (K * K) y (mul-pos some some)
