-- docs/SCOPE.md 6.2, 6.3: under CIELAB DE tells colours apart, however close they are. Under CMC and CIE94 it does not:
-- an example of each is at the end. Assumes nothing.
use Rattle.std.specs.Prelude.{◌≡◌, refl, false, ℕ, ◌-◌, ◌*◌, ◌^◌, ℤ, pos, negsuc, ◌-ℤ◌}
use Rattle.std.proofs.Common.{sym, ap, ◌∙◌, mul-le-mul_right, mul-div_cancel, arith, pow_pos}
use Rattle.std.proofs.lemmas.Bool.{false≢true}
use Rattle.rounding.specs.Root.{root_of}
use Rattle.rounding.specs.Signed.{∣◌∣, minus, ◌·◌, ◌÷◌}
use Rattle.rounding.proofs.Theorems.Signed.Difference.{diff_sub, diff_parts, diff_abs}
use Rattle.rounding.proofs.Theorems.Signed.Laws.{abs-sub-scaled}
use Rattle.colour.specs.declared.conversion.GridColour.{GridColour}
use Rattle.colour.specs.Conversion.{Lab, at_places}
use Rattle.sheet.specs.Sheet.{chroma, cross, dot, same_hue, hue_change, semi_axis_l, semi_axis_c, semi_axis_c94}
use Rattle.sheet.specs.Sheet.{semi_axis_h94, component, component_h, total, hue_semi_axis, semi_axes_cielab}
use Rattle.sheet.specs.Sheet.{semi_axes_cie94, semi_axes_cmc, semi_axes, shift, differences, sheet}
use Rattle.sheet.proofs.Theorems.Sheet.Apart.Ray.{eq_of_sub}
use Rattle.sheet.proofs.Theorems.Sheet.Apart.Shift.{same_of_shift}
use Rattle.sheet.proofs.Theorems.Sheet.Facts.{DE_zero_iff, sheet_self}
use Rattle.sheet.proofs.Theorems.Sheet.Laws.{abs-component, abs-component_h}
use Rattle.sheet.specs.declared.differences.Differences.{Differences}
use Rattle.sheet.specs.declared.formula.Formula.{Formula}
use Rattle.sheet.specs.declared.formula.Formula.TheVariants.{CIELAB, CIE94, CMC}
pub mod Ray
pub mod Shift

-- ---- line 8: over 1 nothing is rounded away

module _ (n : ℕ) (Δ : ℤ) where
  zero_of_component : component n 1000 (2 ^ n) Δ ≡ pos 0 → ∣ Δ ∣ ≡ 0
  zero_of_component e =
      let turned : 1000 * 2 ^ n * ∣ Δ ∣ ≡ ∣ Δ ∣ * (1000 * 2 ^ n) = omega arith in
      let whole : ∣ component n 1000 (2 ^ n) Δ ∣ ≡ ∣ Δ ∣ =
      abs-component n 1000 (2 ^ n) Δ ∙ rw turned (mul-div_cancel ∣ Δ ∣ (omega (arith, pow_pos n))) in
      sym whole ∙ ap (λ (z : ℤ). ∣ z ∣) e

  zero_of_component_h : component_h n (2 ^ n) Δ ≡ pos 0 → ∣ Δ ∣ ≡ 0
  zero_of_component_h e =
      let turned : 2 ^ n * ∣ Δ ∣ ≡ ∣ Δ ∣ * 2 ^ n = omega arith in
      let whole : ∣ component_h n (2 ^ n) Δ ∣ ≡ ∣ Δ ∣ =
      abs-component_h n (2 ^ n) Δ ∙ rw turned (mul-div_cancel ∣ Δ ∣ (pow_pos n)) in
      sym whole ∙ ap (λ (z : ℤ). ∣ z ∣) e

cielab_same_at_places : (n l c : ℕ) (R T : GridColour) → (sheet n CIELAB l c R T).DE ≡ 0 → at_places n R ≡ at_places n T
unfolding sheet differences semi_axes semi_axes_cielab
cielab_same_at_places n l c R T e =
    let z = (DE_zero_iff n CIELAB l c R T).0 e in
    same_of_shift (at_places n R) (at_places n T)
    (zero_of_component n _ z.DL-zero) (zero_of_component n _ z.DC-zero) (zero_of_component_h n _ z.DH-zero)

-- ---- the grid

eq_of_scaled : (n : ℕ) (x y : ℤ) → 2 ^ n · x ≡ 2 ^ n · y → x ≡ y
eq_of_scaled n x y e =
    eq_of_sub x y (omega (arith, mul-le-mul_right ∣ x -ℤ y ∣ (pow_pos n), abs-sub-scaled (2 ^ n) x y, none))
  where
    none : ∣ 2 ^ n · x -ℤ 2 ^ n · y ∣ ≡ 0
    none = rw e (omega (arith, diff_abs (diff_sub (diff_parts (2 ^ n · y)) (diff_parts (2 ^ n · y)))))

pos-abs : (z : ℤ) → minus z ≡ false → pos ∣ z ∣ ≡ z
pos-abs (pos m) h = refl
pos-abs (negsuc m) h = absurd (false≢true (sym h))

same_of_at_places :
    (n : ℕ) (R T : GridColour) → minus R.L.0 ≡ false → minus T.L.0 ≡ false →
    at_places n R ≡ at_places n T → R ≡ T
unfolding at_places
same_of_at_places n R T h_r h_t e =
    let magnitude = eq_of_scaled (n - 20) (pos ∣ R.L.0 ∣) (pos ∣ T.L.0 ∣) (ap (λ (c : Lab). pos c.L) e) in
    let L = sym (pos-abs R.L.0 h_r) ∙ magnitude ∙ pos-abs T.L.0 h_t in
    let a = eq_of_scaled (n - 20) R.a.0 T.a.0 (ap (λ (c : Lab). c.a) e) in
    let b = eq_of_scaled (n - 20) R.b.0 T.b.0 (ap (λ (c : Lab). c.b) e) in
    λ i. record { L = record { 0 = L i }; a = record { 0 = a i }; b = record { 0 = b i } }

-- DE TELLS COLOURS APART: under CIELAB, at every n, it is 0 if the two grid colours are equal, and only then. Of them
-- nothing is asked but that L* is not below 0
pub cielab_zero_iff_equal :
    (n l c : ℕ) (R T : GridColour) → minus R.L.0 ≡ false → minus T.L.0 ≡ false →
    ((sheet n CIELAB l c R T).DE ≡ 0 → R ≡ T) × (R ≡ T → (sheet n CIELAB l c R T).DE ≡ 0)
cielab_zero_iff_equal n l c R T h_r h_t = (
  λ e. same_of_at_places n R T h_r h_t (cielab_same_at_places n l c R T e),
  λ e. rw e (ap (λ (d : Differences). d.DE) (sheet_self n CIELAB l c T)),
)

-- ---- not so under CMC and CIE94: where l·SL is above 1, a ΔL of one unit makes less than one unit of DL

-- a grey of so many grid units in L*
abbrev pub grey_of : (L : ℕ) → GridColour
grey_of L = record { L = record { 0 = pos L }; a = record { 0 = pos 0 }; b = record { 0 = pos 0 } }

pub record ZeroOfDifferent (f : Formula) (l c : ℕ) (R T : GridColour) : Type 0 where
  pub differ : R ≡ T → ⊥
  pub zero : (sheet 20 f l c R T).DE ≡ 0

differ_by_one : grey_of 52428800 ≡ grey_of 52428801 → ⊥
differ_by_one e = let z : ◌≡◌ {A = ℕ} 52428800 52428801 = ap (λ (c : GridColour). ∣ c.L.0 ∣) e in omega arith

-- L* = 50 and one grid unit more, with l = c = 10
pub cmc_zero_of_different : ZeroOfDifferent CMC 10000 10000 (grey_of 52428800) (grey_of 52428801)
unfolding root_of ◌÷◌ chroma cross dot same_hue hue_change semi_axis_l semi_axis_c component component_h total hue_semi_axis
    semi_axes_cmc semi_axes shift differences sheet at_places
cmc_zero_of_different = record { differ = differ_by_one; zero = refl }

pub cie94_zero_of_different : ZeroOfDifferent CIE94 10000 10000 (grey_of 52428800) (grey_of 52428801)
unfolding root_of ◌÷◌ chroma cross dot same_hue hue_change semi_axis_c94 semi_axis_h94 component component_h total
    semi_axes_cie94 semi_axes shift differences sheet at_places
cie94_zero_of_different = record { differ = differ_by_one; zero = refl }

-- with l = c = 1 too: at L* = 50 SL is 1.0883
pub cmc_zero_of_different_at_one : ZeroOfDifferent CMC 1000 1000 (grey_of 52428800) (grey_of 52428801)
unfolding root_of ◌÷◌ chroma cross dot same_hue hue_change semi_axis_l semi_axis_c component component_h total hue_semi_axis
    semi_axes_cmc semi_axes shift differences sheet at_places
cmc_zero_of_different_at_one = record { differ = differ_by_one; zero = refl }
