-- Theorems on `specs/Placed.antt`.
pub mod Exactly
pub mod Laws
pub mod Ways
