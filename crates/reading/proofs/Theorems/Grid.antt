-- Theorems on `specs/Grid.antt`.
pub mod Laws
