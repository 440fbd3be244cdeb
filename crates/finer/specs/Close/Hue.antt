-- Sections 3.5 to 3.14: how far Q, W, F and G of two loose sheets of the same colours can be apart. T by itself is
-- not stable where the chroma is a few units, so it is compared only as C T and as F T. Over plain numbers, 1 for the
-- one sheet and 2 for the other; then over the sheets. Assumes nothing.
use Rattle.std.specs.Prelude.{◌≡◌, ℕ, ◌+◌, ◌-◌, ◌*◌, ◌≤◌, ◌<◌}
use Rattle.std.proofs.Common.{ap, mul-le-mul_right, arith}
use Rattle.rounding.specs.Fraction.{LooseFraction, two_fractions_lt, cross_fractions_lt}
use Rattle.rounding.specs.Root.{LooseRoot}
use Rattle.rounding.proofs.Theorems.Root.Laws.{two_roots_lt, square-low, square-high}
use Rattle.finer.specs.Products.{le_of_mul_le, square_le, le_of_square_le}
use Rattle.finer.specs.Loose.{unit, coarse, Data, Quantities, LooseHue}

-- ---- line 5

-- 3.6
W-le :
    (K Q1 Q2 W1 W2 : ℕ) → Q1 < Q2 + K → Q2 ≤ W2 →
    LooseRoot 2 K (Q1 * Q1 + 1900 * (coarse K * coarse K)) W1 →
    LooseRoot 2 K (Q2 * Q2 + 1900 * (coarse K * coarse K)) W2 → W1 ≤ W2 + 2 * K
W-le K Q1 Q2 W1 W2 near below h g =
    le_of_square_le (omega (arith, square-low h, square-high g, square_le near, mul-le-mul_right K below))

-- 3.7
F-le :
    (K Q1 Q2 W1 W2 : ℕ) {F1 F2 : ℕ} →
    Q1 < Q2 + K → W2 ≤ W1 + 2 * K → Q2 ≤ W2 → 43 * coarse K ≤ W1 →
    LooseFraction K (Q1 * unit K) W1 F1 → LooseFraction K (Q2 * unit K) W2 F2 → F1 < F2 + K + 9 * K
F-le K Q1 Q2 W1 W2 near near-W below low h g = cross_fractions_lt (9 * K) h g cross
  where
    cross : Q1 * unit K * W2 ≤ Q2 * unit K * W1 + 9 * K * (W1 * W2)
    cross =
        let by-Q = mul-le-mul_right (K * W2) near in
        let by-W = mul-le-mul_right (K * Q2) near-W in
        omega (arith, by-Q, by-W, mul-le-mul_right (K * K) below, mul-le-mul_right (K * W2) low)

-- 3.8: F is at most 128/43 of Q, so at most the chroma
F-le-Q : (K Q W F : ℕ) → 0 < K → 43 * coarse K ≤ W → F * W ≤ Q * unit K → 43 * F ≤ 128 * Q
F-le-Q K Q W F some low h = le_of_mul_le K some (omega (arith, mul-le-mul_right F low))

F-le-C :
    (K S C Q F : ℕ) → 43 * F ≤ 128 * Q → F ≤ unit K → Q * (128 * unit K) ≤ S → S < (C + K) * (C + K) → K ≤ C → F ≤ C
F-le-C K S C Q F by-Q F≤1 low high K≤C =
    let scaled = mul-le-mul_right K by-Q in
    le_of_square_le (omega (arith, scaled, mul-le-mul_right F F≤1, mul-le-mul_right C K≤C, mul-le-mul_right K K≤C))

-- ---- line 6, T being (p C + q M) / (10 ^ 9 C)

-- 3.10
constant-le-T :
    (K p q C M T : ℕ) →
    0 < C → (p * C + q * M) * unit K < (T + K) * (1000000000 * C) → p * unit K ≤ 1000000000 * (T + K)
constant-le-T K p q C M T some h = le_of_mul_le C some (omega arith)

-- 3.11
CT-le :
    (K p q C1 C2 M T1 T2 : ℕ) → C1 < C2 + K → C2 < C1 + K → p * unit K ≤ 1000000000 * (T2 + K) →
    T1 * (1000000000 * C1) ≤ (p * C1 + q * M) * unit K → (p * C2 + q * M) * unit K < (T2 + K) * (1000000000 * C2) →
    C1 * T1 ≤ (T2 + K) * (C1 + 2 * K)
CT-le K p q C1 C2 M T1 T2 near near' by-T low high =
    omega (arith, mul-le-mul_right (K * p) near, mul-le-mul_right (T2 + K) near', mul-le-mul_right K by-T)

-- ---- line 7

-- 3.12
FT_le :
    (K C1 F1 T1 T2 : ℕ) →
    0 < K → 0 < C1 → C1 * T1 ≤ (T2 + K) * (C1 + 2 * K) → F1 ≤ C1 → F1 ≤ unit K → T2 ≤ unit K →
    F1 * T1 ≤ F1 * T2 + 4 * (unit K * K)
FT_le K C1 F1 T1 T2 some some-C by-C F≤C F≤1 T≤1 =
    let by-F = mul-le-mul_right (K * (T2 + K)) F≤C in
    let wide : F1 * T1 * C1 ≤ (F1 + 2 * K) * (T2 + K) * C1 = omega (arith, mul-le-mul_right F1 by-C, by-F) in
    omega (arith, le_of_mul_le C1 some-C wide, mul-le-mul_right K F≤1, mul-le-mul_right K T≤1, mul-le-mul_right K some)

-- 3.14: F (1 - T) moves by no more than F, as T is at most 1; g is 1 - T
F_less_FT_le :
    (K F1 F2 T g : ℕ) →
    F2 ≤ F1 + 10 * K → g + T ≡ unit K → F1 * T + unit K * F2 ≤ F2 * T + unit K * F1 + 10 * (K * unit K)
F_less_FT_le K F1 F2 T g near whole =
    let by-K = ap (λ (z : ℕ). z * K) whole in
    omega (arith, mul-le-mul_right g near, by-K, ap (λ (z : ℕ). z * F1) whole, ap (λ (z : ℕ). z * F2) whole)

G-le :
    (K F1 F2 T1 T2 P1 P2 G1 G2 : ℕ) →
    0 < K → F1 * T1 ≤ F1 * T2 + 4 * (unit K * K) → F1 * T2 + unit K * F2 ≤ F2 * T2 + unit K * F1 + 10 * (K * unit K) →
    P1 * unit K ≤ F1 * T1 → F2 * T2 < (P2 + K) * unit K → G1 + F1 ≡ P1 + unit K → G2 + F2 ≡ P2 + unit K →
    G1 ≤ G2 + 15 * K
G-le K F1 F2 T1 T2 P1 P2 G1 G2 some by-T by-F low high sum1 sum2 =
    le_of_mul_le K some (omega (arith, ap (λ (z : ℕ). z * K) sum1, ap (λ (z : ℕ). z * K) sum2))

-- ---- of two loose sheets

module _ {K : ℕ} (some : 0 < K) {d : Data} where
  loose_F_le : {s t : Quantities} → LooseHue K (unit K) d s → LooseHue K (unit K) d t → s.F < t.F + K + 9 * K
  loose_F_le h g =
      let near = two_fractions_lt h.Q g.Q in
      let back = two_fractions_lt g.Q h.Q in
      F-le K _ _ _ _ near (W-le K _ _ _ _ back h.Q≤W g.W h.W) g.Q≤W h.43≤W h.F g.F

  loose_F_le_C : {s : Quantities} → LooseRoot 2 K d.square_r s.CR → LooseHue K (unit K) d s → s.F ≤ s.CR
  loose_F_le_C root h =
      let by-Q = F-le-Q K _ _ _ some h.43≤W h.F.low in
      F-le-C K _ _ _ _ by-Q h.F≤1 h.Q.low (square-high root) h.K≤C

  loose_FT_le :
      {s t : Quantities} → LooseRoot 2 K d.square_r s.CR → LooseRoot 2 K d.square_r t.CR →
      LooseHue K (unit K) d s → LooseHue K (unit K) d t → s.F * s.T ≤ s.F * t.T + 4 * (unit K * K)
  loose_FT_le root root' h g =
      let by-T = constant-le-T K _ _ _ _ _ (omega (arith, g.K≤C)) g.T.high in
      let near = two_roots_lt 2 root root' in
      let back = two_roots_lt 2 root' root in
      let by-C = CT-le K _ _ _ _ _ _ _ near back by-T h.T.low g.T.high in
      FT_le K _ _ _ _ some (omega (arith, h.K≤C)) by-C (loose_F_le_C root h) h.F≤1 g.T≤1

  pub loose_G_le :
      {s t : Quantities} → LooseRoot 2 K d.square_r s.CR → LooseRoot 2 K d.square_r t.CR →
      LooseHue K (unit K) d s → LooseHue K (unit K) d t → s.G ≤ t.G + 15 * K
  loose_G_le {s} {t} root root' h g =
      let near : t.F ≤ s.F + 10 * K = omega (arith, loose_F_le g h) in
      let apart = F_less_FT_le K s.F t.F t.T (unit K - t.T) near (omega (arith, g.T≤1)) in
      G-le K _ _ _ _ _ _ _ _ some (loose_FT_le root root' h g) apart h.P.low g.P.high h.G g.G
