-- Theorems on `specs/Sorted.antt`.
pub mod Exact
pub mod Facts
pub mod Laws
pub mod Ways
