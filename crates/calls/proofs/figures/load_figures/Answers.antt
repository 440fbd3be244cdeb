-- `figures::load_figures` meets its contract: what a load comes to is valid where it is accepted. Assumes nothing.
use Rattle.std.proofs.Common.{sym, ◌∙◌}
use Rattle.calls.proofs.Theorems.Outcome.Load.{loaded-valid}
use Rattle.calls.proofs.figures.load_figures.Goals as goal

pub reference_answer-requires : goal.reference_answer-requires
reference_answer-requires c s e = loaded-valid _ _ s (sym c.load_outcome.ensures ∙ e)
