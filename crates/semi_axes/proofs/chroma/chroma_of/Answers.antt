-- `chroma::chroma_of` meets its contract: a colour of the grid at 20 places is the colour itself (`at_places_20`).
-- Assumes nothing.
use Rattle.colour.proofs.Theorems.Conversion.Places.{at_places_20}
use Rattle.semi_axes.proofs.chroma.chroma_of.Goals as goal

pub returns : goal.returns
returns c = rw (at_places_20 c.args.c) (rw (c.of.ensures.a, c.of.ensures.b) at c.of.result.is_chroma)
