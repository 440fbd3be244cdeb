-- What the contracts of `delivery` cite, and the laws that callers go by.
-- the mean colour, and each cone's DE from it
pub mod Delivery
-- the first of the greatest of a list
pub mod Farthest
-- a list written over the start of another
pub mod Written
-- the whole call
pub mod Sorted
-- inside this crate: sums, and the slice of figures as it is written
pub mod Sums
pub mod Room
