-- Theorems on `specs/Sheet.antt`.
pub mod Apart
pub mod Bounds
pub mod Cases
pub mod Factors
pub mod Facts
pub mod Laws
