-- What larger factors do: a larger l or c, both above 0, makes no DE larger. So a pass stays a pass, and no pair fails
-- that did not fail before. At every n, under each formula. Assumes nothing.
use Rattle.std.specs.Prelude.{◌≡◌, ◌⊎◌, ℕ, ◌*◌, ◌/◌, ◌^◌, ◌≤◌, ◌<◌, ℤ}
use Rattle.std.proofs.Common.{inl, inr, eq-zero-or-pos, mul-pos, mul-zero, mul-le-mul, mul-le-mul_right, arith}
use Rattle.rounding.specs.Fraction.{div_antitone}
use Rattle.rounding.proofs.Theorems.Root.Laws.{root_mono}
use Rattle.rounding.specs.Signed.{∣◌∣}
use Rattle.colour.specs.declared.conversion.GridColour.{GridColour}
use Rattle.sheet.specs.Sheet.{component, total, factor_under, differences, sheet, verdict}
use Rattle.sheet.proofs.Theorems.Sheet.Facts.{factor_under-pos, below_of_pass, above_of_fail}
use Rattle.sheet.proofs.Theorems.Sheet.Laws.{abs-change, abs-component, compared-pass, compared-fail}
use Rattle.sheet.specs.declared.formula.Formula.{Formula}
use Rattle.sheet.specs.declared.formula.Formula.TheVariants.{CIELAB, CIE94, CMC}
use Rattle.sheet.specs.declared.verdict.Verdict.TheVariants.{Pass, Fail}

-- ---- line 8

component-le : (n S : ℕ) (Δ : ℤ) {l k : ℕ} → 0 < l → l ≤ k → ∣ component n k S Δ ∣ ≤ ∣ component n l S Δ ∣
component-le n S Δ {l} {k} some le = rw (abs-component n k S Δ, abs-component n l S Δ) (either (eq-zero-or-pos S))
  where
    either : (S ≡ 0) ⊎ (0 < S) → 1000 * 2 ^ n * ∣ Δ ∣ / (k * S) ≤ 1000 * 2 ^ n * ∣ Δ ∣ / (l * S)
    either (inl z) = rw (z, mul-zero k, mul-zero l) (omega arith)
    either (inr p) = div_antitone (1000 * 2 ^ n * ∣ Δ ∣) (mul-pos some p) (mul-le-mul_right S le)

total-le :
    (DL EL DC EC DH : ℤ) → ∣ EL ∣ ≤ ∣ DL ∣ → ∣ EC ∣ ≤ ∣ DC ∣ → total EL EC DH ≤ total DL DC DH
unfolding total
total-le DL EL DC EC DH hl hc = root_mono 2 (omega arith) (omega (arith, mul-le-mul hl hl, mul-le-mul hc hc))

-- ---- the sheet

factor_under-le : (f : Formula) {l k : ℕ} → l ≤ k → factor_under f l ≤ factor_under f k
factor_under-le CIELAB h = omega arith
factor_under-le CIE94 h = h
factor_under-le CMC h = h

module _
    (n : ℕ) (f : Formula) {l c k e : ℕ} (l-some : 0 < l) (c-some : 0 < c) (l_le : l ≤ k) (c-le : c ≤ e)
    (R T : GridColour)
  where
    -- by l and c, and by k and e, which are not smaller
    abbrev pub DE : ℕ
    DE = (sheet n f l c R T).DE

    abbrev pub DE' : ℕ
    DE' = (sheet n f k e R T).DE

    pub DE_no_larger : DE' ≤ DE
    unfolding sheet differences
    DE_no_larger =
        total-le _ _ _ _ _
        (component-le n _ _ (factor_under-pos f l-some) (factor_under-le f l_le))
        (component-le n _ _ (factor_under-pos f c-some) (factor_under-le f c-le))

    module _ (tolerance : ℕ) where
      pub pass-stays : verdict n tolerance DE ≡ Pass → verdict n tolerance DE' ≡ Pass
      unfolding verdict
      pass-stays h =
          let below = below_of_pass n tolerance DE h in
          compared-pass n (tolerance * 2 ^ n) (1000 * DE')
          (omega (arith, DE_no_larger, abs-change (tolerance * 2 ^ n) (1000 * DE'))) (omega (arith, DE_no_larger))

      pub no_new_fail : verdict n tolerance DE' ≡ Fail → verdict n tolerance DE ≡ Fail
      unfolding verdict
      no_new_fail h =
          let above = above_of_fail n tolerance DE' h in
          compared-fail n (tolerance * 2 ^ n) (1000 * DE)
          (omega (arith, DE_no_larger, abs-change (tolerance * 2 ^ n) (1000 * DE))) (omega (arith, DE_no_larger))
