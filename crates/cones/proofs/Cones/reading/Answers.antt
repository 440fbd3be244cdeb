-- `Cones::reading` meets its contract: element i of the list of readings is that of the three elements i (`zip_at`).
-- Assumes nothing.
use Rattle.std.specs.Prelude.{List, get_or, length, ◌<◌}
use Rattle.std.proofs.Common.{◌∙◌, ap, arith}
use Rattle.colour.specs.Placed.{Reading, in_space}
use Rattle.cones.specs.Cones.{no_reading}
use Rattle.cones.specs.Zip.{zip_at}
use Rattle.cones.proofs.Theorems.Cones.Laws.{readings_length}
use Rattle.cones.proofs.Cones.reading.Goals as goal

pub returns : goal.returns
returns c =
    let s = c.self.inside in
    let within : c.args.i < length s.xs.now =
    omega (arith, c.requires, ap length c.self.view_is, readings_length s.space _ _ _ c.self.invariant) in
    c.of.ensures ∙ zip_at (in_space s.space) _ _ _ c.args.i _ no_reading c.self.invariant within
    ∙ ap (λ (rs : List Reading). get_or rs c.args.i no_reading) c.self.view_is
