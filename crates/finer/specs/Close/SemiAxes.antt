-- Sections 3.15 to 3.17 and 4: two loose sheets of the same colours are close under each formula. SH over plain
-- numbers first, 1 for the one sheet and 2 for the other; then CMC, CIE94, CIELAB. Assumes nothing.
use Rattle.std.specs.Prelude.{◌≡◌, ◌⊎◌, ℕ, ◌+◌, ◌*◌, ◌≤◌, ◌<◌}
use Rattle.std.proofs.Common.{inl, inr, mul-le-mul, mul-le-mul_right, eq-zero-or-pos, arith}
use Rattle.rounding.specs.Root.{LooseRoot}
use Rattle.rounding.proofs.Theorems.Root.Laws.{two_roots_lt}
use Rattle.sheet.specs.declared.formula.Formula.{Formula}
use Rattle.sheet.specs.declared.formula.Formula.TheVariants.{CIELAB, CIE94, CMC}
use Rattle.finer.specs.Products.{le_of_mul_le}
use Rattle.finer.specs.Loose.{unit, Data, Quantities, LooseCMC, LooseCIE94, LooseCIELAB, LooseSemiAxes, Loose}
use Rattle.finer.specs.Close.{Close}
use Rattle.finer.specs.Close.Chroma.{ΔC-le, SL-le, SC-le, ratio_le}
use Rattle.finer.specs.Close.Hue.{loose_G_le}

-- ---- SH under CMC

-- 3.15: what SC G can gain, with what the rounding loses, is under a ten-thousandth of it
SH_ratio_le :
    (K SC1 SC2 G1 G2 SH1 SH2 : ℕ) →
    0 < K → SC1 ≤ SC2 + 2 * K → G1 ≤ G2 + 15 * K → unit K ≤ 2 * SC2 → unit K ≤ 3 * G2 →
    SH1 * unit K ≤ SC1 * G1 → SC2 * G2 < (SH2 + K) * unit K → 10000 * SH1 ≤ 10001 * SH2
SH_ratio_le K SC1 SC2 G1 G2 SH1 SH2 some near-SC near-G low-SC low-G low high =
    let by-G = mul-le-mul_right SC2 low-G in
    le_of_mul_le K some
    (omega (arith, mul-le-mul near-SC near-G, by-G, mul-le-mul_right G2 low-SC, mul-le-mul_right K low-SC))

-- 3.16
SC-le-SH :
    (K SC1 SC2 G2 SH2 : ℕ) →
    0 < K → SC1 ≤ SC2 + 2 * K → unit K ≤ 2 * SC2 → unit K ≤ 3 * G2 → SC2 * G2 < (SH2 + K) * unit K → SC1 ≤ 4 * SH2
SC-le-SH K SC1 SC2 G2 SH2 some near-SC low-SC low-G high =
    let third : SC2 ≤ 3 * SH2 + 3 * K = le_of_mul_le K some (omega (arith, mul-le-mul_right SC2 low-G)) in
    omega arith

-- 3.17: a neutral reference, whose SH is SC
neutral-SC-le : (K SC1 SC2 : ℕ) → SC1 ≤ SC2 + 2 * K → unit K ≤ 2 * SC2 → SC1 ≤ 4 * SC2
neutral-SC-le K SC1 SC2 near low = omega arith

-- ---- two loose sheets

module _ {K : ℕ} (some : 0 < K) (d : Data) (s t : Quantities)
    (root : LooseRoot 2 K d.square_r s.CR) (root' : LooseRoot 2 K d.square_r t.CR) where
  cmc-close : LooseCMC K (unit K) d s → LooseCMC K (unit K) d t → unit K ≤ 2 * t.SL → unit K ≤ 2 * t.SC → Close s t
  cmc-close h g low-SL low-SC = either (eq-zero-or-pos d.square_r)
    where
      near-SL : s.SL < t.SL + K
      near-SL = SL-le K (unit K) d.L s.SL t.SL h.dark h.light g.dark g.light

      near-SC : s.SC ≤ t.SC + 2 * K
      near-SC = omega (arith, SC-le K (unit K) _ _ (two_roots_lt 2 root root') h.SC g.SC)

      ratio_SL : 10000 * s.SL ≤ 10001 * t.SL
      ratio_SL = ratio_le K _ _ (omega (arith, near-SL)) low-SL

      ratio_SC : 10000 * s.SC ≤ 10001 * t.SC
      ratio_SC = ratio_le K _ _ near-SC low-SC

      either : (d.square_r ≡ 0) ⊎ (0 < d.square_r) → Close s t
      either (inl z) = record {
        SL = ratio_SL;
        SC = ratio_SC;
        SH = rw (h.neutral z, g.neutral z) ratio_SC;
        SC≤4SH = rw (g.neutral z) (neutral-SC-le K _ _ near-SC low-SC);
      }
      either (inr p) =
          let h' = h.chromatic p in
          let g' = g.chromatic p in
          let near-G = loose_G_le some root root' h' g' in
          record {
            SL = ratio_SL;
            SC = ratio_SC;
            SH = SH_ratio_le K _ _ _ _ _ _ some near-SC near-G low-SC g'.1≤3G h'.SH.low g'.SH.high;
            SC≤4SH = SC-le-SH K _ _ _ _ some near-SC low-SC g'.1≤3G g'.SH.high;
          }

  -- 4.1
  cie94-close : LooseCIE94 K (unit K) s → LooseCIE94 K (unit K) t → Close s t
  cie94-close h g = let near : s.CR < t.CR + K = two_roots_lt 2 root root' in omega arith

  -- 4.2
  cielab-close : LooseCIELAB (unit K) s → LooseCIELAB (unit K) t → Close s t
  cielab-close h g = omega arith

  semi_axes_close :
      (f : Formula) → LooseSemiAxes f K (unit K) d s → LooseSemiAxes f K (unit K) d t →
      unit K ≤ 2 * t.SL → unit K ≤ 2 * t.SC → Close s t
  semi_axes_close CIELAB h g low-SL low-SC = cielab-close h g
  semi_axes_close CIE94 h g low-SL low-SC = cie94-close h g
  semi_axes_close CMC h g low-SL low-SC = cmc-close h g low-SL low-SC

pub loose_close :
    {K : ℕ} → 0 < K → {d : Data} {s t : Quantities} → Loose K (unit K) d s → Loose K (unit K) d t → Close s t
loose_close some {d} {s} {t} h g =
    semi_axes_close some d s t h.CR g.CR d.formula h.semi_axes_lem g.semi_axes_lem
    g.differences.1≤2SL
    g.differences.1≤2SC

-- 3.2
pub loose_ΔC_le : {K N : ℕ} {d : Data} {s t : Quantities} → Loose K N d s → Loose K N d t → s.ΔC ≤ t.ΔC + 2 * K
loose_ΔC_le {K} h g =
    ΔC-le K _ _ _ _ _ _
    (two_roots_lt 2 h.CR g.CR)
    (two_roots_lt 2 g.CR h.CR)
    (two_roots_lt 2 h.CT g.CT)
    (two_roots_lt 2 g.CT h.CT)
    h.ΔC
    g.ΔC
