-- Section 6 of the argument: the core, used in both directions on the sheet at n places and K times the sheet at 20,
-- says how far DE can move; and what that means for a verdict, over plain numbers: x is DE at 20 places, y at n, in a
-- unit of which K make one of x's. Assumes nothing.
use Rattle.std.specs.Prelude.{ℕ, ◌+◌, ◌-◌, ◌*◌, ◌^◌, ◌≤◌, ◌<◌}
use Rattle.std.proofs.Common.{mul-le-mul_right, arith, pow_pos}
use Rattle.colour.specs.declared.conversion.GridColour.{GridColour}
use Rattle.sheet.specs.Settings.{Factor}
use Rattle.sheet.specs.Sheet.{sheet}
use Rattle.sheet.proofs.Theorems.Sheet.Bounds.{factor_under-fits}
use Rattle.sheet.specs.declared.formula.Formula.{Formula}
use Rattle.finer.specs.Loose.{unit, Data, Quantities, Loose}
use Rattle.finer.specs.Loose.Sheets.{data_of, quantities-DE, times-DE}
use Rattle.finer.specs.Loose.AtTwenty.{both_loose}
use Rattle.finer.specs.Close.SemiAxes.{loose_close, loose_ΔC_le}
use Rattle.finer.specs.Core.{DE-le}

-- ---- 6.1

-- y is K x to within a ten-thousandth, and 579 K for the rounding
pub record Moves (K x y : ℕ) : Type 0 where
  pub above : 10000 * y ≤ 10001 * (K * x + 579 * K)
  pub below : 10000 * (K * x) ≤ 10001 * (y + 579 * K)

loose_DE_le :
    {K : ℕ} {d : Data} {s t : Quantities} →
    0 < K → Factor d.l → Factor d.c → Loose K (unit K) d s → Loose K (unit K) d t →
    10000 * t.DE ≤ 10001 * (s.DE + 579 * K)
loose_DE_le some hl hc h g =
    DE-le some hl hc h.differences g.differences (loose_close some h g) (loose_ΔC_le h g) (loose_ΔC_le g h)

pub DE_moves :
    (n : ℕ) → 20 ≤ n → (f : Formula) {l c : ℕ} → Factor l → Factor c → (R T : GridColour) →
    Moves (2 ^ (n - 20)) (sheet 20 f l c R T).DE (sheet n f l c R T).DE
unfolding data_of
DE_moves n from20 f {l} {c} hl hc R T =
    let both = both_loose n from20 f hl hc R T in
    let some = pow_pos (n - 20) in
    let hl' = factor_under-fits f hl in
    let hc' = factor_under-fits f hc in
    rw (← quantities-DE n f l c R T, ← quantities-DE 20 f l c R T)
    (record {
      above = rw times-DE at (loose_DE_le some hl' hc' both.at_20 both.at_n);
      below = rw times-DE at (loose_DE_le some hl' hc' both.at_n both.at_20);
    })

-- ---- 6.2 and 6.3

module _ (K x y : ℕ) (some : 0 < K) (moves : Moves K x y) where
  -- 1627.6339 = (10 · 2 ^ 20 + 10001 · 579) / 10000
  pub moves_le :
      x ≤ 10 * 2 ^ 20 → (10000 * y ≤ 10000 * (K * x) + 16276339 * K) × (10000 * (K * x) ≤ 10000 * y + 16276339 * K)
  moves_le small = let most = mul-le-mul_right K small in omega arith

  -- 0.002 is 2097.152 units of 2 ^ -20
  pub moved-lt : x ≤ 10 * 2 ^ 20 → 1000 * ((y - K * x) + (K * x - y)) < 2 * unit K
  moved-lt small = omega (arith, moves_le small)

  module _ (tolerance : ℕ) (most : tolerance ≤ 10000) where
    pub pass_kept : 1000 * x + 2 * 2 ^ 20 < tolerance * 2 ^ 20 → 1000 * y < tolerance * unit K
    pass_kept pass = omega (arith, mul-le-mul_right K pass, mul-le-mul_right K most)

    -- no limit on DE is needed: what y is at least grows with x
    pub fail-kept : tolerance * 2 ^ 20 + 2 * 2 ^ 20 < 1000 * x → tolerance * unit K < 1000 * y
    fail-kept fail = omega (arith, mul-le-mul_right K fail, mul-le-mul_right K most)
