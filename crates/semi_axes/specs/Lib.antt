-- What the contracts of `semi_axes` ask.
pub mod Ranges
