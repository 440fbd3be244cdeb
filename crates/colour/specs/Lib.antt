-- What the contracts of `colour` cite.
-- the refusals and their numbers
pub mod Refusal
-- the whites of Table 1
pub mod White
-- X, Y, Z to units of 2 ^ -n
pub mod Conversion
-- a reading's place on the grid, or why it is refused
pub mod Placed
