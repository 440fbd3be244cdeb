-- Sections 3.1 to 3.4: how far ΔC, SL and SC of two loose sheets of the same colours can be apart. Over plain
-- numbers, 1 for the one sheet and 2 for the other, N for 1 in their unit. Assumes nothing.
use Rattle.std.specs.Prelude.{◌≡◌, ◌⊎◌, ℕ, ◌+◌, ◌*◌, ◌≤◌, ◌<◌}
use Rattle.std.proofs.Common.{inl, inr, mul-le-mul_right, arith}
use Rattle.std.proofs.Math.Decide.{dec_lt}
use Rattle.rounding.specs.Fraction.{LooseFraction, two_fractions_lt, cross_fractions_lt}
use Rattle.finer.specs.Loose.{unit}

-- 3.2: ΔC, the distance of CR and CT
abbrev Distance : (ΔC CR CT : ℕ) → Type 0
Distance ΔC CR CT = (ΔC + CR ≡ CT) ⊎ (ΔC + CT ≡ CR)

pub ΔC-le :
    (K R1 R2 T1 T2 d1 d2 : ℕ) →
    R1 < R2 + K → R2 < R1 + K → T1 < T2 + K → T2 < T1 + K → Distance d1 R1 T1 → Distance d2 R2 T2 → d1 ≤ d2 + 2 * K
ΔC-le K R1 R2 T1 T2 d1 d2 r r' t t' (inl e) (inl g) = omega arith
ΔC-le K R1 R2 T1 T2 d1 d2 r r' t t' (inl e) (inr g) = omega arith
ΔC-le K R1 R2 T1 T2 d1 d2 r r' t t' (inr e) (inl g) = omega arith
ΔC-le K R1 R2 T1 T2 d1 d2 r r' t t' (inr e) (inr g) = omega arith

-- 3.3: the fraction for SL holds nothing that was rounded
module _ (K N L SL1 SL2 : ℕ) where
  abbrev Dark : ℕ → Type 0
  Dark SL = L < 16 * N → LooseFraction K (511 * N) 1000 SL

  abbrev Light : ℕ → Type 0
  Light SL = 16 * N ≤ L → LooseFraction K (40975 * L * N) (1000000 * N + 17650 * L) SL

  pub SL-le : Dark SL1 → Light SL1 → Dark SL2 → Light SL2 → SL1 < SL2 + K
  SL-le dark1 light1 dark2 light2 = either (dec_lt L (16 * N))
    where
      either : Dec (L < 16 * N) → SL1 < SL2 + K
      either (yes h) = two_fractions_lt (dark1 h) (dark2 h)
      either (no f) = let h : 16 * N ≤ L = omega arith in two_fractions_lt (light1 h) (light2 h)

-- 3.4: SC grows with C at most as fast as C, so it adds one K of its own
pub SC-le :
    (K N C1 C2 : ℕ) {SC1 SC2 : ℕ} → C1 < C2 + K →
    LooseFraction K ((638 * C1 * 1000 + (10000 * N + 131 * C1) * 638) * N) ((10000 * N + 131 * C1) * 1000) SC1 →
    LooseFraction K ((638 * C2 * 1000 + (10000 * N + 131 * C2) * 638) * N) ((10000 * N + 131 * C2) * 1000) SC2 →
    SC1 < SC2 + K + K
SC-le K N C1 C2 near h g = cross_fractions_lt K h g (omega (arith, mul-le-mul_right (N * N) near))

-- a semi-axis of at least 1/2 that is 2 K off is off by less than a ten-thousandth
pub ratio_le : (K x y : ℕ) → x ≤ y + 2 * K → unit K ≤ 2 * y → 10000 * x ≤ 10001 * y
ratio_le K x y near low = omega arith
