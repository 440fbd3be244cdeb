-- Theorems on `specs/Refusals.antt`.
pub mod Laws
