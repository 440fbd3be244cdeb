-- `accept::check_ranges` meets its contract: one law of `Acceptance/Laws.antt` for each way out. Assumes nothing.
use Rattle.std.proofs.Common.{sym, ◌∙◌}
use Rattle.standard.proofs.Theorems.Acceptance.Laws.{l_out, c_out, tolerance_out, all_in}
use Rattle.standard.proofs.accept.check_ranges.Goals.{then-not-is_factor-via-then-not-is_factor}
use Rattle.standard.proofs.accept.check_ranges.Goals.{then-not-is_factor-via-else-not-is_factor+then-not-is_factor-2}
use Rattle.standard.proofs.accept.check_ranges.Goals as goal

pub returns-then-not-is_factor : goal.returns-then-not-is_factor
returns-then-not-is_factor c =
    elim c.then-not-is_factor.branch [
      | then-not-is_factor-via-then-not-is_factor w ↦
          sym (l_out _ _ _ (sym c.is_factor.ensures ∙ w.if-not-is_factor.true))
      | then-not-is_factor-via-else-not-is_factor+then-not-is_factor-2 w ↦
          sym (c_out _ _ _ (sym c.is_factor.ensures ∙ w.if-not-is_factor.false)
          (sym w.is_factor-else-not-is_factor.ensures ∙ w.if-not-is_factor-2.true))
    ]

pub returns-then-not-is_tolerance : goal.returns-then-not-is_tolerance
returns-then-not-is_tolerance c =
    sym (tolerance_out _ _ _ (sym c.is_factor.ensures ∙ c.if-not-is_factor.false)
    (sym c.is_factor-else-not-is_factor.ensures ∙ c.if-not-is_factor-2.false)
    (sym c.is_tolerance.ensures ∙ c.if-not-is_tolerance.true))

pub returns : goal.returns
returns c =
    sym (all_in _ _ _ (sym c.is_factor.ensures ∙ c.if-not-is_factor.false)
    (sym c.is_factor-else-not-is_factor.ensures ∙ c.if-not-is_factor-2.false)
    (sym c.is_tolerance.ensures ∙ c.if-not-is_tolerance.false))
