-- Section 5 of the argument, the core: where the semi-axes of two loose sheets of the same colours are close, so are
-- their DE. It knows nothing of a formula. The error of ΔH, or of DH, has no bound by itself; it is the squares that
-- are compared, and the error of DH² is paid out of DC. Over plain numbers in the order of the sheet, 1 for the sheet
-- that is given and 2 for the one that is bounded; then over the sheets. Assumes nothing.
use Rattle.std.specs.Prelude.{◌≡◌, refl, Bool, true, false, ℕ, ◌+◌, ◌-◌, ◌*◌, ◌≤◌, ◌<◌}
use Rattle.std.proofs.Common.{mul-le-mul_right, mul-pos, arith}
use Rattle.std.proofs.Math.Decide.{dec_le}
use Rattle.rounding.specs.Fraction.{LooseFraction}
use Rattle.rounding.specs.Root.{LooseRoot}
use Rattle.rounding.proofs.Theorems.Root.Laws.{square-low, square-high}
use Rattle.sheet.specs.Settings.{Factor}
use Rattle.finer.specs.Products.{le_of_mul_le, square_le, le_of_square_le}
use Rattle.finer.specs.Loose.{unit, Data, Quantities, LooseDifferences}
use Rattle.finer.specs.Close.{Close}

-- ---- DL

-- 5.1; p is 1000 N |ΔL|
DL-le :
    (K l p SL1 SL2 DL1 DL2 : ℕ) →
    0 < l → 0 < SL2 → 10000 * SL1 ≤ 10001 * SL2 → LooseFraction K p (l * SL1) DL1 → LooseFraction K p (l * SL2) DL2 →
    10000 * DL2 ≤ 10001 * (DL1 + K)
DL-le K l p SL1 SL2 DL1 DL2 some-l some-SL ratio one two =
    let weighed : DL2 * SL2 ≤ (DL1 + K) * SL1 = le_of_mul_le l some-l (omega (arith, two.low, one.high)) in
    le_of_mul_le SL2 some-SL (omega (arith, mul-le-mul_right (DL1 + K) ratio))

-- ---- DC

-- 5.2; c from 0.5 up is what keeps the 9 small
DC-le :
    (K N c d1 d2 SC1 SC2 DC1 DC2 : ℕ) →
    500 ≤ c → 0 < SC2 → N ≤ 2 * SC1 → d2 ≤ d1 + 2 * K → 10000 * SC1 ≤ 10001 * SC2 →
    LooseFraction K (1000 * N * d1) (c * SC1) DC1 → LooseFraction K (1000 * N * d2) (c * SC2) DC2 →
    10000 * DC2 ≤ 10001 * (DC1 + 9 * K)
DC-le K N c d1 d2 SC1 SC2 DC1 DC2 low-c some-SC low-SC near ratio one two =
    le_of_mul_le SC2 some-SC (omega (arith, weighed, mul-le-mul_right (DC1 + 9 * K) ratio))
  where
    weighed : DC2 * SC2 ≤ (DC1 + 9 * K) * SC1
    weighed =
        let at_least_lem = mul-le-mul_right (K * SC1) low-c in
        le_of_mul_le c (omega arith)
        (omega (arith, two.low, one.high, mul-le-mul_right N near, mul-le-mul_right K low-SC, at_least_lem))

-- 5.3; c up to 10: DC is at least a tenth of ΔC / SC
ΔC-le-DC : (K N c d SC DC : ℕ) → c ≤ 10000 → LooseFraction K (1000 * N * d) (c * SC) DC → d * N ≤ 10 * ((DC + K) * SC)
ΔC-le-DC K N c d SC DC high-c one = omega (arith, one.high, mul-le-mul_right ((DC + K) * SC) high-c)

-- ---- DH

-- 5.4
ΔC-square-le : (K d1 d2 : ℕ) → d1 ≤ d2 + 2 * K → d1 * d1 ≤ d2 * d2 + 4 * K * d1
ΔC-square-le K d1 d2 near = either (dec_le d1 d2)
  where
    either : Dec (d1 ≤ d2) → d1 * d1 ≤ d2 * d2 + 4 * K * d1
    either (yes le) = omega (arith, square_le le)
    either (no f) =
        let less : d2 ≤ d1 = omega arith in
        omega (arith, mul-le-mul_right d1 near, mul-le-mul_right d2 near, mul-le-mul_right K less)

-- 5.5; that D² - ΔC² stops at 0 does no harm, as it still grows with D²
ΔH-square-le :
    (K D² d1 d2 H1 H2 : ℕ) →
    d1 ≤ d2 + 2 * K → LooseRoot 2 K (D² - d1 * d1) H1 → LooseRoot 2 K (D² - d2 * d2) H2 →
    H2 * H2 ≤ (H1 + K) * (H1 + K) + 4 * K * d1
ΔH-square-le K D² d1 d2 H1 H2 near one two = omega (arith, square-low two, square-high one, ΔC-square-le K d1 d2 near)

-- 5.6
ΔH-le-DH : (K N SH H DH : ℕ) → N ≤ 7 * SH → LooseFraction K (N * H) SH DH → N * (H + K) ≤ (DH + 8 * K) * SH
ΔH-le-DH K N SH H DH low-SH one = omega (arith, one.high, mul-le-mul_right K low-SH)

-- 5.7: the error of ΔH², by SH of the second sheet
error_le :
    (K N c d SC SH DC : ℕ) →
    c ≤ 10000 → N ≤ 7 * SH → SC ≤ 4 * SH → LooseFraction K (1000 * N * d) (c * SC) DC →
    4 * K * d * (N * N) ≤ 1120 * (K * (DC + K)) * (SH * SH)
error_le K N c d SC SH DC high-c low-SH SC≤4SH one =
    let semi_axes_lem : N * SC ≤ 28 * (SH * SH) = omega (arith, mul-le-mul_right SC low-SH, mul-le-mul_right SH SC≤4SH) in
    let by_DC = ΔC-le-DC K N c d SC DC high-c one in
    omega (arith, mul-le-mul_right (K * N) by_DC, mul-le-mul_right (K * (DC + K)) semi_axes_lem)

-- 5.8; h is DH1 + 8 K and e is 1120 K (DC1 + K), as letters so that no product grows long. 100020001 is 10001²
DH-square-le :
    (K N d1 H1 H2 SH1 SH2 DH2 h e : ℕ) →
    0 < SH2 → 10000 * SH1 ≤ 10001 * SH2 → N * (H1 + K) ≤ h * SH1 → DH2 * SH2 ≤ N * H2 →
    H2 * H2 ≤ (H1 + K) * (H1 + K) + 4 * K * d1 → 4 * K * d1 * (N * N) ≤ e * (SH2 * SH2) →
    10000 * DH2 * (10000 * DH2) ≤ 100020001 * (h * h + e)
DH-square-le K N d1 H1 H2 SH1 SH2 DH2 h e some-SH ratio one two squares error =
    le_of_mul_le (SH2 * SH2) (mul-pos some-SH some-SH)
    (omega (arith, weighed, mul-le-mul_right (h * h) (square_le ratio)))
  where
    weighed : DH2 * SH2 * (DH2 * SH2) ≤ h * SH1 * (h * SH1) + e * (SH2 * SH2)
    weighed = omega (arith, square_le two, square_le one, mul-le-mul_right (N * N) squares)

-- ---- DE

-- 5.9; X is DE1 + K. The square is completed, so nothing is divided by DE
sum_of_squares_le :
    (K X DL DC DH : ℕ) →
    DL * DL + DC * DC + DH * DH < X * X →
    (DL + K) * (DL + K) + (DC + 9 * K) * (DC + 9 * K) + ((DH + 8 * K) * (DH + 8 * K) + 1120 * (K * (DC + K)))
    ≤ (X + 578 * K) * (X + 578 * K)
sum_of_squares_le K X DL DC DH sum =
    let DL≤X : DL ≤ X = le_of_square_le (omega arith) in
    let DC≤X : DC ≤ X = le_of_square_le (omega arith) in
    let DH≤X : DH ≤ X = le_of_square_le (omega arith) in
    omega (arith, mul-le-mul_right K DL≤X, mul-le-mul_right K DC≤X, mul-le-mul_right K DH≤X)

-- 5.9; u, v are the bounds of 5.1 and 5.2, w that of 5.8, and Y is X + 578 K
DE_le_of_parts :
    (u v w Y DL DC DH DE : ℕ) →
    DE * DE ≤ DL * DL + DC * DC + DH * DH → 10000 * DL ≤ 10001 * u → 10000 * DC ≤ 10001 * v →
    10000 * DH * (10000 * DH) ≤ 100020001 * w → u * u + v * v + w ≤ Y * Y → 10000 * DE ≤ 10001 * Y
DE_le_of_parts u v w Y DL DC DH DE sum by-u by-v by-w whole =
    le_of_square_le (omega (arith, square_le by-u, square_le by-v))

-- ---- of two loose sheets

-- DE of t is at most DE of s with a ten-thousandth, and 579 units of 2 ^ -20 for the rounding
pub DE-le :
    {K : ℕ} {d : Data} {s t : Quantities} →
    0 < K → Factor d.l → Factor d.c → LooseDifferences K (unit K) d s → LooseDifferences K (unit K) d t →
    Close s t → s.ΔC ≤ t.ΔC + 2 * K → t.ΔC ≤ s.ΔC + 2 * K → 10000 * t.DE ≤ 10001 * (s.DE + 579 * K)
DE-le {K} {d} {s} {t} some hl hc one two close near back =
    let low = square-low two.DE in
    let high = square-high one.DE in
    omega (arith, DE_le_of_parts _ _ _ _ _ _ _ _ low by_DL by_DC by_DH (sum_of_squares_le _ _ _ _ _ high))
  where
    turned : (b : Bool) → d.same_hue ≡ b → t.ΔH * t.ΔH ≤ (s.ΔH + K) * (s.ΔH + K) + 4 * K * s.ΔC
    turned true e = rw (two.same e) (omega arith)
    turned false e = ΔH-square-le _ _ _ _ _ _ near (one.ΔH e) (two.ΔH e)

    by_DL : 10000 * t.DL ≤ 10001 * (s.DL + K)
    by_DL = DL-le _ _ _ _ _ _ _ (omega (arith, hl.low)) (omega (arith, two.1≤2SL)) close.SL one.DL two.DL

    by_DC : 10000 * t.DC ≤ 10001 * (s.DC + 9 * K)
    by_DC =
        DC-le _ _ _ _ _ _ _ _ _ hc.low (omega (arith, two.1≤2SC)) one.1≤2SC back close.SC one.DC two.DC

    by_DH : 10000 * t.DH * (10000 * t.DH) ≤ 100020001 * ((s.DH + 8 * K) * (s.DH + 8 * K) + 1120 * (K * (s.DC + K)))
    by_DH =
        DH-square-le _ _ _ _ _ _ _ _ _ _ (omega (arith, two.1≤7SH)) close.SH
        (ΔH-le-DH _ _ _ _ _ one.1≤7SH one.DH)
        two.DH.low
        (turned d.same_hue refl)
        (error_le _ _ _ _ _ _ _ hc.high two.1≤7SH close.SC≤4SH one.DC)
