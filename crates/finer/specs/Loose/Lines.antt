-- Section 2, line by line: each quantity of the sheet, at any n, is a fraction or a root rounded down once
-- (`-fraction`, `-root`); and K times its value at 20 places is within K of the same fraction or root in a unit K
-- times finer (`-times`), whose 1 is 2 ^ 20 K. Assumes nothing.
use Rattle.std.specs.Prelude.{◌≡◌, Bool, ℕ, ◌+◌, ◌-◌, ◌*◌, ◌^◌, ◌≤◌, ◌<◌, ℤ}
use Rattle.std.proofs.Common.{ap, ◌∙◌, pow-add}
use Rattle.std.proofs.Math.Bool.{true, false}
use native.Mathlib.Omega.{arith}
use Rattle.std.proofs.Math.Pow.{pow_pos}
use Rattle.rounding.specs.Fraction.{LooseFraction, IsFraction, fraction_law}
use Rattle.rounding.specs.Root.{LooseRoot, IsRoot, root_law}
use Rattle.rounding.specs.Signed.{∣◌∣, square, ◌·◌}
use Rattle.rounding.proofs.Theorems.Signed.Laws.{abs-signed}
use Rattle.sheet.specs.Sheet.{chroma, same_hue, hue_change, semi_axis_l, semi_axis_c, hue_q, hue_w, hue_f, hue_t, hue_p, hue_g}
use Rattle.sheet.specs.Sheet.{semi_axis_h, semi_axis_c94, semi_axis_h94, component, component_h, total}
use Rattle.sheet.proofs.Theorems.Sheet.Laws.{semi_axis_l-dark, semi_axis_l-light, abs-component, abs-component_h}
use Rattle.finer.specs.Products.{fraction-scaled, root-scaled}
use Rattle.finer.specs.Loose.{unit, coarse, constant, slope}
use Rattle.finer.specs.Loose.Times.{square-times}

-- ---- at any n

pub chroma-root : (a b : ℤ) → IsRoot 2 (square a + square b) (chroma a b)
unfolding chroma
chroma-root a b = root_law 2 _ (omega arith)

pub hue_change-root : (D² : ℕ) (ΔC x y : ℤ) → same_hue x y ≡ false → IsRoot 2 (D² - square ΔC) ∣ hue_change D² ΔC x y ∣
unfolding hue_change
hue_change-root D² ΔC x y h = rw (h, abs-signed) (root_law 2 _ (omega arith))

module _ (n : ℕ) where
  pub dark-fraction : (L : ℕ) → L < 16 * 2 ^ n → IsFraction (511 * 2 ^ n) 1000 (semi_axis_l n L)
  dark-fraction L h = rw (semi_axis_l-dark n h) (fraction_law _ _ (omega arith))

  pub light-fraction :
      (L : ℕ) → 16 * 2 ^ n ≤ L → IsFraction (40975 * L * 2 ^ n) (1000000 * 2 ^ n + 17650 * L) (semi_axis_l n L)
  light-fraction L h = rw (semi_axis_l-light n h) (fraction_law _ _ (omega (arith, pow_pos n)))

  pub semi_axis_c-fraction :
      (C : ℕ) →
      let d : ℕ = 10000 * 2 ^ n + 131 * C in IsFraction ((638 * C * 1000 + d * 638) * 2 ^ n) (d * 1000) (semi_axis_c n C)
  unfolding semi_axis_c
  semi_axis_c-fraction C = fraction_law _ _ (omega (arith, pow_pos n))

  pub hue_q-fraction : (a b : ℤ) → IsFraction (square a + square b) (2 ^ (n + 7)) (hue_q n a b)
  unfolding hue_q
  hue_q-fraction a b = fraction_law _ _ (pow_pos (n + 7))

  pub hue_w-root : (Q : ℕ) → IsRoot 2 (Q * Q + 1900 * (2 ^ (n - 7) * 2 ^ (n - 7))) (hue_w n Q)
  unfolding hue_w
  hue_w-root Q = root_law 2 _ (omega arith)

  pub hue_f-fraction : (Q W : ℕ) → 0 < W → IsFraction (Q * 2 ^ n) W (hue_f n Q W)
  unfolding hue_f
  hue_f-fraction Q W some = fraction_law _ _ some

  pub hue_t-fraction :
      (second : Bool) (M C : ℕ) → 0 < C →
      IsFraction ((constant second * C + slope second * M) * 2 ^ n) (1000000000 * C) (hue_t n second M C)
  unfolding hue_t
  hue_t-fraction false M C some = fraction_law _ _ (omega arith)
  hue_t-fraction true M C some = fraction_law _ _ (omega arith)

  pub hue_p-fraction : (F T : ℕ) → IsFraction (F * T) (2 ^ n) (hue_p n F T)
  unfolding hue_p
  hue_p-fraction F T = fraction_law _ _ (pow_pos n)

  pub hue_g-sum : (P F : ℕ) → F ≤ 2 ^ n → hue_g n P F + F ≡ P + 2 ^ n
  unfolding hue_g
  hue_g-sum P F h = omega arith

  pub semi_axis_h-fraction : (SC G : ℕ) → IsFraction (SC * G) (2 ^ n) (semi_axis_h n SC G)
  unfolding semi_axis_h
  semi_axis_h-fraction SC G = fraction_law _ _ (pow_pos n)

  pub semi_axis_c94-fraction : (C : ℕ) → IsFraction (1000 * 2 ^ n + 45 * C) 1000 (semi_axis_c94 n C)
  unfolding semi_axis_c94
  semi_axis_c94-fraction C = fraction_law _ _ (omega arith)

  pub semi_axis_h94-fraction : (C : ℕ) → IsFraction (1000 * 2 ^ n + 15 * C) 1000 (semi_axis_h94 n C)
  unfolding semi_axis_h94
  semi_axis_h94-fraction C = fraction_law _ _ (omega arith)

  pub component-fraction :
      (l S : ℕ) (Δ : ℤ) → 0 < l * S → IsFraction (1000 * 2 ^ n * ∣ Δ ∣) (l * S) ∣ component n l S Δ ∣
  component-fraction l S Δ some = rw abs-component (fraction_law _ _ some)

  pub component_h-fraction : (S : ℕ) (Δ : ℤ) → 0 < S → IsFraction (2 ^ n * ∣ Δ ∣) S ∣ component_h n S Δ ∣
  component_h-fraction S Δ some = rw abs-component_h (fraction_law _ _ some)

pub total-root : (DL DC DH : ℤ) → IsRoot 2 (square DL + square DC + square DH) (total DL DC DH)
unfolding total
total-root DL DC DH = root_law 2 _ (omega arith)

-- ---- 2 ^ n, 2 ^ (n - 7) and 2 ^ (n + 7), by K = 2 ^ (n - 20)

module _ (n : ℕ) (from20 : 20 ≤ n) where
  pub pow-is-unit : 2 ^ n ≡ unit (2 ^ (n - 20))
  pow-is-unit = let places : n ≡ 20 + (n - 20) = omega arith in ap (λ (k : ℕ). 2 ^ k) places ∙ pow-add 2 20 (n - 20)

  pub pow-is-coarse : 2 ^ (n - 7) ≡ coarse (2 ^ (n - 20))
  pow-is-coarse =
      let places : n - 7 ≡ 13 + (n - 20) = omega arith in
      ap (λ (k : ℕ). 2 ^ k) places ∙ pow-add 2 13 (n - 20)

pub pow-add-seven : (n : ℕ) → 2 ^ (n + 7) ≡ 128 * 2 ^ n
pow-add-seven n = pow-add 2 n 7 ∙ omega arith

-- ---- K times the line at 20 places, K any number

module _ (K : ℕ) (h_k : 0 < K) where
  pub chroma-times : (a b : ℤ) → LooseRoot 2 K (square (K · a) + square (K · b)) (K * chroma a b)
  chroma-times a b = root-scaled K h_k (omega (arith, square-times K a, square-times K b)) (chroma-root a b)

  pub dark-times : (L : ℕ) → L < 16 * 2 ^ 20 → LooseFraction K (511 * unit K) 1000 (K * semi_axis_l 20 L)
  dark-times L h = fraction-scaled K 1 h_k (omega arith) (omega arith) (omega arith) (dark-fraction 20 L h)

  pub light-times :
      (L : ℕ) → 16 * 2 ^ 20 ≤ L →
      LooseFraction K (40975 * (K * L) * unit K) (1000000 * unit K + 17650 * (K * L)) (K * semi_axis_l 20 L)
  light-times L h = fraction-scaled K K h_k h_k (omega arith) (omega arith) (light-fraction 20 L h)

  pub semi_axis_c-times :
      (C : ℕ) →
      let d : ℕ = 10000 * unit K + 131 * (K * C) in
      LooseFraction K ((638 * (K * C) * 1000 + d * 638) * unit K) (d * 1000) (K * semi_axis_c 20 C)
  semi_axis_c-times C = fraction-scaled K K h_k h_k (omega arith) (omega arith) (semi_axis_c-fraction 20 C)

  pub hue_q-times : (a b : ℤ) → LooseFraction K (square (K · a) + square (K · b)) (128 * unit K) (K * hue_q 20 a b)
  hue_q-times a b =
      fraction-scaled K K h_k h_k (omega arith) (omega (arith, square-times K a, square-times K b)) (hue_q-fraction 20 a b)

  pub hue_w-times : (Q : ℕ) → LooseRoot 2 K (K * Q * (K * Q) + 1900 * (coarse K * coarse K)) (K * hue_w 20 Q)
  hue_w-times Q = root-scaled K h_k (omega arith) (hue_w-root 20 Q)

  pub hue_f-times : (Q W : ℕ) → 0 < W → LooseFraction K (K * Q * unit K) (K * W) (K * hue_f 20 Q W)
  hue_f-times Q W some = fraction-scaled K K h_k h_k (omega arith) (omega arith) (hue_f-fraction 20 Q W some)

  pub hue_t-times :
      (second : Bool) (M C : ℕ) → 0 < C →
      LooseFraction K ((constant second * (K * C) + slope second * (K * M)) * unit K) (1000000000 * (K * C))
      (K * hue_t 20 second M C)
  hue_t-times second M C some = fraction-scaled K K h_k h_k (omega arith) (omega arith) (hue_t-fraction 20 second M C some)

  pub hue_p-times : (F T : ℕ) → LooseFraction K (K * F * (K * T)) (unit K) (K * hue_p 20 F T)
  hue_p-times F T = fraction-scaled K K h_k h_k (omega arith) (omega arith) (hue_p-fraction 20 F T)

  pub hue_g-times : (P F : ℕ) → F ≤ 2 ^ 20 → K * hue_g 20 P F + K * F ≡ K * P + unit K
  hue_g-times P F h = omega (arith, ap (λ (z : ℕ). K * z) (hue_g-sum 20 P F h))

  pub semi_axis_h-times : (SC G : ℕ) → LooseFraction K (K * SC * (K * G)) (unit K) (K * semi_axis_h 20 SC G)
  semi_axis_h-times SC G = fraction-scaled K K h_k h_k (omega arith) (omega arith) (semi_axis_h-fraction 20 SC G)

  pub semi_axis_c94-times : (C : ℕ) → LooseFraction K (1000 * unit K + 45 * (K * C)) 1000 (K * semi_axis_c94 20 C)
  semi_axis_c94-times C = fraction-scaled K 1 h_k (omega arith) (omega arith) (omega arith) (semi_axis_c94-fraction 20 C)

  pub semi_axis_h94-times : (C : ℕ) → LooseFraction K (1000 * unit K + 15 * (K * C)) 1000 (K * semi_axis_h94 20 C)
  semi_axis_h94-times C = fraction-scaled K 1 h_k (omega arith) (omega arith) (omega arith) (semi_axis_h94-fraction 20 C)

  pub component-times :
      (l S : ℕ) (Δ : ℤ) → 0 < l * S →
      LooseFraction K (1000 * unit K * (K * ∣ Δ ∣)) (l * (K * S)) (K * ∣ component 20 l S Δ ∣)
  component-times l S Δ some = fraction-scaled K K h_k h_k (omega arith) (omega arith) (component-fraction 20 l S Δ some)

  pub component_h-times :
      (S : ℕ) (Δ : ℤ) → 0 < S → LooseFraction K (unit K * (K * ∣ Δ ∣)) (K * S) (K * ∣ component_h 20 S Δ ∣)
  component_h-times S Δ some = fraction-scaled K K h_k h_k (omega arith) (omega arith) (component_h-fraction 20 S Δ some)
