-- Why the limits of demand 3 stand there, by computation: beyond a DE of 10 a finer sheet can move it by 0.002 and
-- more, up to 10 by more than 0.00008, and n begins at 20. The pairs up to 10 are those that move most, under each
-- formula, of all that were met. No proof cites this. Assumes nothing.
use Rattle.std.specs.Prelude.{◌≡◌, refl, ℕ, ◌-◌, ◌*◌, ◌^◌, ◌≤◌, ◌<◌, ℤ, pos, neg_ℤ}
use Rattle.std.proofs.Common.{arith, rules}
use Rattle.rounding.specs.Root.{root_of}
use Rattle.rounding.specs.Signed.{◌÷◌}
use Rattle.colour.specs.declared.conversion.GridColour.{GridColour}
use Rattle.colour.specs.Conversion.{at_places}
use Rattle.sheet.specs.Ranges.{InRange}
use Rattle.sheet.specs.Sheet.{chroma, distance², cross, dot, same_hue, hue_change, semi_axis_l, semi_axis_c, second_form, hue_q}
use Rattle.sheet.specs.Sheet.{hue_w, hue_f, hue_m, hue_t, hue_p, hue_g, semi_axis_h, semi_axis_c94, semi_axis_h94, component}
use Rattle.sheet.specs.Sheet.{component_h, total, hue_semi_axis, semi_axes_cielab, semi_axes_cie94, semi_axes_cmc, semi_axes}
use Rattle.sheet.specs.Sheet.{shift, differences, sheet, compared, verdict}
use Rattle.sheet.specs.declared.formula.Formula.{Formula}
use Rattle.sheet.specs.declared.formula.Formula.TheVariants.{CIELAB, CIE94, CMC}
use Rattle.sheet.specs.declared.verdict.Verdict.TheVariants.{Pass}
use Rattle.finer.specs.Finer.{apart}

-- a colour by its numbers of grid units
abbrev lab : (L : ℕ) (a b : ℤ) → GridColour
lab L a b = record { L = record { 0 = pos L }; a = record { 0 = a }; b = record { 0 = b } }

abbrev minus : ℕ → ℤ
minus x = neg_ℤ (pos x)

abbrev grey : ℕ → GridColour
grey L = lab (L * 2 ^ 20) (pos 0) (pos 0)

-- a pair within the ranges of SCOPE 3.4, its DE at 20 and at 40 places, and by how much DE moves at least, in
-- hundredths of a unit of 2 ^ -20
pub record Met (f : Formula) (l c : ℕ) (R T : GridColour) (DE20 DE40 hundredths : ℕ) : Type 0 where
  pub ranges : InRange l c R T
  pub at_20 : (sheet 20 f l c R T).DE ≡ DE20
  pub at_40 : (sheet 40 f l c R T).DE ≡ DE40
  pub moved : hundredths * 2 ^ 20 ≤ 100 * apart DE40 (2 ^ (40 - 20) * DE20)

pub record Sharp : Type 0 where
  -- a DE of 269.7: part 3 does not hold of it
  pub beyond_10 :
      Met CMC 5003 10000 (lab 21216891 (pos 8021720) (pos 11462462)) (lab 24198716 (minus 268435453) (minus 268434754))
      282840964 296577866283831 227011
  pub over_10 : 10 * 2 ^ 20 < 282840964
  pub by_0_002 : 2 * 2 ^ 40 ≤ 1000 * apart 296577866283831 (2 ^ (40 - 20) * 282840964)
  -- DE up to 10: part 3 does not hold with 0.00008
  pub cmc :
      Met CMC 7208 9963 (lab 53482592 (pos 7319696) (pos 10554335)) (lab 52956196 (pos 29601456) (pos 26698326))
      10459267 10967242110126 8987
  pub by_0_00008 : 8 * 2 ^ 40 ≤ 100000 * apart 10967242110126 (2 ^ (40 - 20) * 10459267)
  pub cie94 :
      Met CIE94 9327 10000 (lab 11529445 (minus 44) (pos 0)) (lab 8482314 (pos 42824352) (pos 95463153))
      10468572 10977072848477 1955
  pub cielab :
      Met CIELAB 1000 1000 (lab 24130486 (minus 113307165) (pos 1093524))
      (lab 24113648 (minus 113107240) (minus 6139723))
      7236027 7587526344561 199
  -- the grid has 20 places: at 19 its numbers would mean colours twice as far apart, and a pass is lost
  pub passed : verdict 20 1500 (sheet 20 CIELAB 1000 1000 (grey 50) (grey 51)).DE ≡ Pass
  pub lost_at_19 : 1500 * 2 ^ 19 ≤ 1000 * (sheet 19 CIELAB 1000 1000 (grey 50) (grey 51)).DE

pub sharp : Sharp
unfolding root_of ◌÷◌ chroma distance² cross dot same_hue hue_change semi_axis_l semi_axis_c second_form hue_q hue_w hue_f hue_m
    hue_t hue_p hue_g semi_axis_h semi_axis_c94 semi_axis_h94 component component_h total hue_semi_axis semi_axes_cielab
    semi_axes_cie94 semi_axes_cmc semi_axes shift differences sheet at_places compared verdict
sharp = record {
  beyond_10 = record { ranges = search rules; at_20 = refl; at_40 = refl; moved = omega arith };
  over_10 = omega arith;
  by_0_002 = omega arith;
  cmc = record { ranges = search rules; at_20 = refl; at_40 = refl; moved = omega arith };
  by_0_00008 = omega arith;
  cie94 = record { ranges = search rules; at_20 = refl; at_40 = refl; moved = omega arith };
  cielab = record { ranges = search rules; at_20 = refl; at_40 = refl; moved = omega arith };
  passed = refl;
  lost_at_19 = omega arith;
}
