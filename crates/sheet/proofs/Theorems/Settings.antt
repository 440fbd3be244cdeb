-- Theorems on `specs/Settings.antt`.
pub mod Laws
