-- `outcome::judge_outcome` meets its contract: what a slice holds is a valid standard. Assumes nothing.
use Rattle.std.proofs.Common.{sym, ap, ◌∙◌}
use Rattle.std.specs.Result.{result_ok}
use Rattle.calls.proofs.Theorems.Outcome.Judge.{held-judgeable}
use Rattle.calls.proofs.outcome.judge_outcome.Goals as goal

pub judge-requires : goal.judge-requires
judge-requires c =
    held-judgeable c.args.station.now c.args.r
    (sym c.read.ensures ∙ c.ok_or.ensures.ok_part ∙ ap result_ok c.in_ok-s.was) c.place.ensures
