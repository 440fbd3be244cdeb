-- The sheet's own figures keep within what `Printable` allows a report: how many digits line 8 can have.
-- Assumes nothing.
use Rattle.std.specs.Prelude.{ℕ, ◌+◌, ◌*◌, ◌^◌, ◌≤◌, ◌<◌, ℤ}
use Rattle.std.proofs.Common.{mul-le-mul, mul-le-mul_left, arith}
use Rattle.rounding.specs.Fraction.{div-lt}
use Rattle.rounding.proofs.Theorems.Root.Laws.{root-lt}
use Rattle.rounding.specs.Signed.{∣◌∣}
use Rattle.colour.specs.declared.conversion.GridColour.{GridColour}
use Rattle.sheet.specs.Settings.{Factor}
use Rattle.sheet.specs.Ranges.{SemiAxesInRange, Moved, InRange}
use Rattle.sheet.specs.Sheet.{component, component_h, total, semi_axes_cielab, semi_axes, differences, sheet}
use Rattle.sheet.proofs.Theorems.Sheet.Bounds.{semi_axes_of_grid, shift_of_grid, components-fit, total-lt}
use Rattle.sheet.proofs.Theorems.Sheet.Laws.{abs-component, abs-component_h}
use Rattle.sheet.specs.declared.semi_axes.SemiAxes.{SemiAxes}
use Rattle.sheet.specs.declared.shift.Shift.{Shift}
use Rattle.sheet.specs.declared.formula.Formula.{Formula}
use Rattle.sheet.specs.declared.formula.Formula.TheVariants.{CIELAB, CIE94, CMC}
use Rattle.lines.specs.Lines.Longest.{Under}
use Rattle.report.specs.Report.Longest.{UnderCielab, UnderFactors, Figures}

-- what is below so many ones is below one more by one at least, as `Under` asks
under_of_lt : (ones : ℕ) {x : ℕ} → x < ones * 2 ^ 20 → Under (ones + 1) x
under_of_lt ones h = omega (arith, h)

-- ---- line 8, below a number of ones: the shift is at most m, and what it is divided by at least e

module _ (ones m e : ℕ) (some : 0 < e) where
  component-lt :
      (l S : ℕ) (Δ : ℤ) → ∣ Δ ∣ ≤ m → e ≤ l * S → 1000 * m < ones * e → ∣ component 20 l S Δ ∣ < ones * 2 ^ 20
  component-lt l S Δ h g most =
      rw abs-component (div-lt _ (l * S) (ones * 2 ^ 20) (omega arith) (omega (arith, mul-le-mul_left ones g)))

  component_h-lt : (S : ℕ) (Δ : ℤ) → ∣ Δ ∣ ≤ m → e ≤ S → m < ones * e → ∣ component_h 20 S Δ ∣ < ones * 2 ^ 20
  component_h-lt S Δ h g most =
      rw abs-component_h (div-lt _ S (ones * 2 ^ 20) (omega arith) (omega (arith, mul-le-mul_left ones g)))

-- under CIELAB: ΔL is at most 120, ΔC at most 512, ΔH below 725
under-cielab :
    (C : ℕ) {Δ : Shift} → Moved Δ →
    UnderCielab (differences 20 1000 1000 (record { C = C; SL = 2 ^ 20; SC = 2 ^ 20; SH = 2 ^ 20 }) Δ)
unfolding differences total
under-cielab C {Δ} h =
    let one : ℕ = 1000 * 2 ^ 20 in
    let DL =
    component-lt 121 (120 * 2 ^ 20) one (omega arith) 1000 (2 ^ 20) Δ.L h.L (omega arith) (omega arith) in
    let DC = component-lt 513 (2 ^ 29) one (omega arith) 1000 (2 ^ 20) Δ.C h.C (omega arith) (omega arith) in
    let DH = component_h-lt 725 759250125 (2 ^ 20) (omega arith) (2 ^ 20) Δ.H h.H (omega arith) (omega arith) in
    record {
      DE =
          under_of_lt 999
          (root-lt 2 _ (999 * 2 ^ 20) (omega arith)
          (omega (arith, mul-le-mul DL DL, mul-le-mul DC DC, mul-le-mul DH DH)));
      DL = omega arith;
      DC = omega arith;
      DH = omega arith;
    }

-- under CIE94 and CMC: SL is at least 0.511 and SC at least 0.638
under_factors :
    {l c : ℕ} {S : SemiAxes} {Δ : Shift} → Factor l → Factor c → SemiAxesInRange S → Moved Δ →
    UnderFactors l c (differences 20 l c S Δ)
unfolding differences
under_factors {Δ = Δ} hl hc s m =
    let p = components-fit hl hc s m in
    record {
      DE = omega (arith, total-lt p);
      DL = omega arith;
      DL_at_ten =
          λ e. under_of_lt 99
          (component-lt 99 (120 * 2 ^ 20) (10000 * 535822) (omega arith) _ _ Δ.L m.L
          (rw e (omega (arith, s.SL))) (omega arith));
      DC = omega arith;
      DC_at_ten =
          λ e. under_of_lt 99
          (component-lt 99 (2 ^ 29) (10000 * 668991) (omega arith) _ _ Δ.C m.C (rw e (omega (arith, s.SC)))
          (omega arith));
      DH = omega arith;
    }

pub sheet-figures : (f : Formula) {l c : ℕ} {R T : GridColour} → InRange l c R T → Figures f l c (sheet 20 f l c R T)
unfolding sheet semi_axes semi_axes_cielab
sheet-figures CIELAB h = under-cielab _ (shift_of_grid h.reference h.specimen)
sheet-figures CIE94 h =
    under_factors h.lightness h.chroma (semi_axes_of_grid CIE94 h.reference)
    (shift_of_grid h.reference h.specimen)
sheet-figures CMC h =
    under_factors h.lightness h.chroma (semi_axes_of_grid CMC h.reference)
    (shift_of_grid h.reference h.specimen)
