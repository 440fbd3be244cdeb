-- `accept::accept` meets its contract: one law of `Acceptance/Laws.antt` for each way out. Assumes nothing.
use Rattle.std.proofs.Common.{sym, ap, ◌∙◌, rules}
use Rattle.colour.specs.Refusal.{refusal_of}
use Rattle.standard.specs.Acceptance.{acceptance}
use Rattle.standard.proofs.Theorems.Acceptance.Laws.{settings-refused, reference-refused, is_accepted}
use Rattle.standard.proofs.accept.accept.Goals as goal

pub returns-in_err-check_ranges : goal.returns-in_err-check_ranges
returns-in_err-check_ranges c =
    let h = settings-refused c.args.s c.args.reference c.in_err-check_ranges.field-0.0
    (sym (ap refusal_of c.in_err-check_ranges.was) ∙ c.check_ranges.ensures) in
    search rules

pub returns-in_err-reference : goal.returns-in_err-reference
returns-in_err-reference c =
    let h = reference-refused c.args.s
    (sym c.check_ranges.ensures ∙ ap refusal_of c.in_ok-check_ranges.was) c.in_err-reference.field-0.0 in
    search rules

pub returns : goal.returns
returns c =
    let h = is_accepted c.args.s
    (sym c.check_ranges.ensures ∙ ap refusal_of c.in_ok-check_ranges.was) c.in_ok-reference.field-0 in
    h ∙ sym (ap (acceptance c.args.s) c.in_ok-reference.was)
