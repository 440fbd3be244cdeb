-- `Cones::colour` meets its contract: where no cone is refused, the reading of cone i is placed at its colour
-- (`placed_there`). Assumes nothing.
use Rattle.std.proofs.Common.{refl}
use Rattle.cones.proofs.Theorems.Cones.Laws.{colour-has-reading, placed_there, colour_there}
use Rattle.cones.proofs.Cones.colour.Goals as goal

pub reading-requires : goal.reading-requires
reading-requires c = colour-has-reading c.args.white _ c.requires

pub unwrap-requires : goal.unwrap-requires
unwrap-requires c = rw (placed_there c.args.white _ c.requires c.reading.ensures c.place.ensures) refl

pub returns : goal.returns
returns c = colour_there c.args.white _ c.requires c.reading.ensures c.place.ensures c.unwrap.ensures
