-- Theorems on `specs/Nearest.antt`.
pub mod Laws
