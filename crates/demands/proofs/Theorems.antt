-- Theorems by the statements of `specs/`.
pub mod Demand2
pub mod Longest
