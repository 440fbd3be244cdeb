-- Theorems on `specs/Put.antt`.
pub mod Laws
