-- Theorems on `specs/Root.antt`.
pub mod Laws
