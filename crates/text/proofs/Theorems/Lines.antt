-- Theorems on `specs/Lines.antt`.
pub mod Laws
