-- `Point::hue_f` meets its contract: F is at most 1 (`hue_f-le`). Assumes nothing.
use Rattle.sheet.specs.Sheet.{hue_f}
use Rattle.sheet.proofs.Theorems.Sheet.Laws.{hue_f-le}
use Rattle.semi_axes.proofs.chroma.Point.hue_f.Goals as goal

pub returns-clause-small : goal.returns-clause-small
unfolding hue_f
returns-clause-small c = rw c.hue_w.ensures.is (hue_f-le 20 c.hue_q-q.result)
