-- X, Y, Z up to 150 are in reach of every white. Assumes nothing.
use Rattle.std.proofs.Common.{rules}
use Rattle.colour.proofs.Theorems.Placed.Ways.{measured}
use Rattle.colour.proofs.placed.converted_colour.Goals as goal

pub grid_colour-requires : goal.grid_colour-requires
grid_colour-requires c = rw c.tristimulus.ensures (measured _ (search rules) (search rules) (search rules))
