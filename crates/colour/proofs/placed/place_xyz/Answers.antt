-- `placed::place_xyz` meets its contract: what was read lies in the range of the conversion. Assumes nothing.
use Rattle.std.proofs.Common.{rules}
use Rattle.colour.proofs.placed.place_xyz.Goals as goal

pub converted_colour-requires : goal.converted_colour-requires
converted_colour-requires c =
    let w = c.in-Ok-Ok-Ok in
    let within = c.requires.within _ _ _ w.is-0 w.is-1 w.is-2 in
    search rules
