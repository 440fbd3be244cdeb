-- The whole ones, and the nearest ten-thousandths to the rest, are together the nearest to the number.
-- Assumes nothing.
use Rattle.std.specs.Prelude.{◌≡◌, Bool, ◌&&◌, ℕ, ◌+◌, ◌*◌, ◌/◌, ◌%◌, ◌^◌, ltb}
use Rattle.std.proofs.Common.{sym, ap, ap₂, ◌∙◌, arith}
use Rattle.rounding.proofs.Theorems.Nearest.Laws.{nearest-add}
use Rattle.text.specs.Decimal.{shown}
use Rattle.text.proofs.Theorems.Decimal.Laws.{shown_split}
use Rattle.text.specs.declared.decimal.Shown.{Shown}
use Rattle.lines.specs.Lines.{figure}
use Rattle.lines.proofs.numbers.figure_of.Goals as goal
use Rattle.lines.proofs.numbers.figure_of.Goals.{then-below, else-below}

abbrev whole : ℕ → ℕ
whole m = m / 1048576 * 10000

abbrev rounded_rest : ℕ → ℕ
rounded_rest m = (m % 1048576 * 10000 + 524288) / 1048576

shown_is : (m : ℕ) → whole m + rounded_rest m ≡ shown 4 (2 ^ 20) m
shown_is m =
    ap (λ (r : ℕ). whole m + r) (sym (nearest-add (m % 1048576 * 10000) 1048576))
    ∙ sym (shown_split 4 (2 ^ 20) m (omega arith))

figure_is :
    (below : Bool) (m : ℕ) {minus : Bool} → minus ≡ (below && ltb 0 (whole m + rounded_rest m)) →
    ◌≡◌ {A = Shown}
    (record { places = 4; minus = minus; whole = (whole m + rounded_rest m) / 10000; units = whole m + rounded_rest m })
    (figure below m)
figure_is below m e =
    ap₂
    (λ (b : Bool) (s : ℕ). record { places = 4; minus = b; whole = s / 10000; units = s })
    (e ∙ ap (λ (s : ℕ). below && ltb 0 s) (shown_is m))
    (shown_is m)

pub returns : goal.returns
returns c =
    let shows : Bool → Bool = λ b. b && ltb 0 (whole c.args.m + rounded_rest c.args.m) in
    figure_is c.args.below c.args.m
    (elim c.if-below.branch [
      | then-below w ↦ w.result-is ∙ sym (ap shows w.if-below.true)
      | else-below w ↦ w.result-is ∙ w.if-below.false ∙ sym (ap shows w.if-below.false)
    ])
