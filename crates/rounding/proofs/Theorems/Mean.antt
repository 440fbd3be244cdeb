-- Theorems on `specs/Mean.antt`.
pub mod Laws
