-- Theorems on `specs/Cones.antt`.
pub mod Laws
pub mod Exactly
