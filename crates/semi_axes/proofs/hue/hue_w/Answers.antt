-- `hue::hue_w` meets its contract: W is above 0 (`hue_w-pos`). Assumes nothing.
use Rattle.std.proofs.Common.{◌≡◌}
use Rattle.sheet.specs.Sheet.{hue_w}
use Rattle.sheet.proofs.Theorems.Sheet.Laws.{hue_w-pos}
use Rattle.semi_axes.proofs.hue.hue_w.Goals as goal

pub returns-clause-some : goal.returns-clause-some
unfolding hue_w
returns-clause-some c =
    let is : c.square_root.result ≡ hue_w 20 c.args.q = c.square_root.ensures in rw is (hue_w-pos 20 c.args.q)
