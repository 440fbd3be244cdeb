-- docs/SCOPE.md 13.1: the cones of a delivery, from three lists of one kind of reading. Assumes nothing.
use Rattle.std.specs.Prelude.{List, [], pos, Float}
use Rattle.std.specs.Float.{nan}
use Rattle.reading.specs.Grid.{grid_of}
use Rattle.colour.specs.Placed.{Reading, in_space, place}
use Rattle.colour.specs.declared.conversion.GridColour.{GridColour}
use Rattle.colour.specs.declared.placed.Values.TheVariants.{Lab}
use Rattle.colour.specs.declared.white.White.{White}
use Rattle.colour.specs.declared.placed.Space.{Space}
use Rattle.cones.specs.Zip.{zip}
use Rattle.cones.specs.InTurn.{Turn, Turns, whole, refused, in_turn}

-- cone i is the reading of entry i of each of the three
abbrev pub readings_of : Space → (xs ys zs : List Float) → List Reading
readings_of k xs ys zs = zip (in_space k) xs ys zs

-- what a read past the end would be
abbrev pub no_reading : Reading
no_reading = Lab nan nan nan

-- a cone is taken with its colour against a white, or refused with 5, 6 or 8
abbrev pub turn_in : White → Reading → Turn GridColour
turn_in w r = place w r

-- THE COLOURS OF ALL CONES, OR THE FIRST REFUSED
abbrev pub cones_in : White → List Reading → Turns GridColour
cones_in w rs = in_turn (turn_in w) rs

-- the colours of a delivery of which no cone is refused
abbrev pub colours_of : Turns GridColour → List GridColour
colours_of (whole cs) = cs
colours_of (refused e i) = []

abbrev pub colours_in : White → List Reading → List GridColour
colours_in w rs = colours_of (cones_in w rs)

-- what stands past their end
abbrev pub no_colour : GridColour
no_colour = record { L = grid_of (pos 0); a = grid_of (pos 0); b = grid_of (pos 0) }
