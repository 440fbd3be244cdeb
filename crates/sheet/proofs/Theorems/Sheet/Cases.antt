-- docs/SCOPE.md 12.1: its thirteen cases, by computation, under one theorem. In units of 2 ^ -20, as printed there;
-- CMC and l = c = 1 unless said. No proof cites this. Assumes nothing.
use Rattle.std.specs.Prelude.{◌≡◌, refl, true, false, ℕ, ◌*◌, ◌^◌, ℤ, pos, neg_ℤ}
use Rattle.rounding.specs.Root.{root_of}
use Rattle.rounding.specs.Signed.{◌÷◌}
use Rattle.colour.specs.declared.conversion.GridColour.{GridColour}
use Rattle.colour.specs.declared.white.White.TheVariants.{D65Ten}
use Rattle.colour.specs.White.{white_of}
use Rattle.colour.specs.Conversion.{bs6923, above_cut, f_high, f_low, f, lightness, convert, at_places}
use Rattle.sheet.specs.Sheet.{chroma, distance², cross, dot, same_hue, hue_change, semi_axis_l, semi_axis_c, second_form}
use Rattle.sheet.specs.Sheet.{semi_axis_c94, semi_axis_h94, component, component_h, total, compared, verdict}
use Rattle.sheet.specs.Sheet.{hue_semi_axis, semi_axes_cielab, semi_axes_cmc, semi_axes, shift, differences, sheet}
use Rattle.sheet.specs.declared.differences.Differences.{Differences}
use Rattle.sheet.specs.declared.formula.Formula.TheVariants.{CIELAB, CMC}
use Rattle.sheet.specs.declared.verdict.Verdict.TheVariants.{Near, Pass, Fail}

-- a whole L*, a whole a* or b*, and a colour of these, in grid units
abbrev grid : ℕ → ℕ
grid x = x * 2 ^ 20

abbrev plus : ℕ → ℤ
plus x = pos (grid x)

abbrev minus : ℕ → ℤ
minus x = neg_ℤ (pos (grid x))

abbrev lab : (L : ℕ) (a b : ℤ) → GridColour
lab L a b = record { L = record { 0 = plus L }; a = record { 0 = a }; b = record { 0 = b } }

abbrev grey : ℕ → GridColour
grey L = lab L (plus 0) (plus 0)

-- the sheet of CMC with l and c in thousandths, and with l = c = 1
abbrev cmc_by : (l c : ℕ) (R T : GridColour) → Differences
cmc_by l c R T = sheet 20 CMC l c R T

abbrev cmc : (R T : GridColour) → Differences
cmc R T = cmc_by 1000 1000 R T

pub record SheetCases : Type 0 where
  pub case_1 : convert 20 bs6923 (white_of D65Ten) (white_of D65Ten) ≡ record { L = 104857600; a = pos 0; b = pos 0 }
  pub case_2 :
      convert 20 bs6923 (white_of D65Ten) (record { X = 0; Y = 0; Z = 0 }) ≡ record { L = 0; a = pos 0; b = pos 0 }
  pub case_3 : (above_cut bs6923 885600 100000000 ≡ false) × (lightness 20 bs6923 885600 100000000 ≡ 8388214)
  pub case_4 : semi_axis_l 20 (grid 50) ≡ 1141179
  pub case_5 : semi_axis_l 20 (grid 15) ≡ 535822
  pub case_6 : semi_axis_l 20 (grid 16) ≡ 536062
  pub case_7 : ((cmc (grey 50) (grey 51)).DL ≡ pos 963487) × ((cmc (grey 50) (grey 51)).DE ≡ 963487)
  pub case_8 : (cmc_by 2000 1000 (grey 50) (grey 51)).DL ≡ pos 481743
  pub case_9 :
      cmc (grey 50) (lab 50 (plus 3) (plus 4)) ≡ record { DL = pos 0; DC = pos 8217686; DH = pos 0; DE = 8217686 }
  pub case_10 : (sheet 20 CIELAB 1000 1000 (grey 50) (lab 50 (plus 3) (plus 4))).DE ≡ 5242880
  pub case_11 : (second_form (plus 100) (minus 27) ≡ true) × (second_form (plus 100) (minus 26) ≡ false)
  pub case_12 :
      shift (at_places 20 (lab 50 (plus 3) (plus 4))) (at_places 20 (lab 50 (minus 3) (minus 4)))
      ≡ record { L = pos 0; C = pos 0; H = pos 10485760 }
  pub case_13 :
      (verdict 20 916 (cmc (grey 50) (grey 51)).DE ≡ Fail) × (verdict 20 920 (cmc (grey 50) (grey 51)).DE ≡ Near)
      × (verdict 20 921 (cmc (grey 50) (grey 51)).DE ≡ Pass)

pub sheet_cases : SheetCases
unfolding root_of ◌÷◌ chroma distance² cross dot same_hue hue_change semi_axis_l semi_axis_c second_form component component_h
    total hue_semi_axis semi_axes_cielab semi_axes_cmc semi_axes shift differences sheet compared verdict white_of above_cut
    f_high f_low f lightness convert at_places
sheet_cases = record {
  case_1 = refl;
  case_2 = refl;
  case_3 = (refl, refl);
  case_4 = refl;
  case_5 = refl;
  case_6 = refl;
  case_7 = (refl, refl);
  case_8 = refl;
  case_9 = refl;
  case_10 = refl;
  case_11 = (refl, refl);
  case_12 = refl;
  case_13 = (refl, refl, refl);
}

-- CIE94's semi-axes at C = 10, 1.45 and 1.15 (SCOPE 6.3), which none of the thirteen reaches
pub cie94_semi_axes : (semi_axis_c94 20 (10 * 2 ^ 20) ≡ 1520435) × (semi_axis_h94 20 (10 * 2 ^ 20) ≡ 1205862)
unfolding semi_axis_c94 semi_axis_h94
cie94_semi_axes = (refl, refl)
