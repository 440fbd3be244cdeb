-- Theorems on `specs/Farthest.antt`.
pub mod Laws
