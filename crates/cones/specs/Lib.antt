-- What the contracts of `cones` cite, and the laws that callers go by.
-- three lists as one
pub mod Zip
-- each element in turn, to the first that is refused
pub mod InTurn
-- the cones of a delivery
pub mod Cones
