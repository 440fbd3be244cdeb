-- docs/SCOPE.md 2.3: no finer sheet changes a verdict, in the words of `specs/Finer.antt`. Assumes nothing.
use Rattle.std.specs.Prelude.{ℕ, ◌+◌, ◌-◌, ◌*◌, ◌^◌, ◌≤◌}
use Rattle.std.proofs.Common.{arith, pow_pos}
use Rattle.rounding.specs.Nearest.{apart}
use Rattle.colour.specs.declared.conversion.GridColour.{GridColour}
use Rattle.sheet.specs.Settings.{Tolerance}
use Rattle.sheet.specs.Ranges.{InRange}
use Rattle.sheet.specs.Sheet.{sheet, verdict}
use Rattle.sheet.proofs.Theorems.Sheet.Laws.{abs-change, compared-near}
use Rattle.sheet.proofs.Theorems.Sheet.Facts.{within_of_near, below_of_pass, above_of_fail}
use Rattle.sheet.specs.declared.formula.Formula.{Formula}
use Rattle.finer.specs.Finer.{VerdictKept}
use Rattle.finer.specs.Loose.Lines.{pow-is-unit}
use Rattle.finer.specs.Moves.{DE_moves, moved-lt, pass_kept, fail-kept}

apart-le : {x y m : ℕ} → x ≤ y + m → y ≤ x + m → apart x y ≤ m
apart-le h g = omega arith

pub no_finer_sheet_changes_a_verdict :
    (f : Formula) {l c tolerance : ℕ} {R T : GridColour} →
    InRange l c R T → Tolerance tolerance →
    (n : ℕ) → 20 ≤ n →
    VerdictKept n tolerance (sheet 20 f l c R T).DE (sheet n f l c R T).DE
unfolding verdict
no_finer_sheet_changes_a_verdict f {l} {c} {tolerance} {R} {T} range accepted n from20 =
    let x : ℕ = (sheet 20 f l c R T).DE in
    let y : ℕ = (sheet n f l c R T).DE in
    let K : ℕ = 2 ^ (n - 20) in
    let some = pow_pos (n - 20) in
    let unit = pow-is-unit n from20 in
    let moves = DE_moves n from20 f range.lightness range.chroma R T in
    record {
      passes = λ e. rw unit (pass_kept K x y some moves tolerance accepted.high (below_of_pass 20 tolerance x e));
      fails = λ e. rw unit (fail-kept K x y some moves tolerance accepted.high (above_of_fail 20 tolerance x e));
      near_within = λ e. let (low, high) = within_of_near 20 tolerance x e in apart-le high low;
      within-near =
          λ h. compared-near 20 (tolerance * 2 ^ 20) (1000 * x)
          (omega (arith, abs-change (tolerance * 2 ^ 20) (1000 * x)));
      unmoved = λ small. rw unit (moved-lt K x y some moves small);
    }
