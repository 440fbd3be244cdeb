-- Theorems on `specs/Runs.antt`.
pub mod Laws
