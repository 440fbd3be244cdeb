-- `angle::Point::degrees` meets its contract: the code's table is that of the definitions, entry for entry.
-- Assumes nothing.
use Rattle.std.proofs.Common.{refl}
use Rattle.angle.specs.Table.{cosines, sines}
use Rattle.angle.proofs.Point.degrees.Goals as goal

pub invariant_of-search : goal.invariant_of-search
unfolding cosines sines
invariant_of-search c = record { is_table = record { sine = refl; cosine = refl } }
