-- Theorems on `specs/Line.antt`.
pub mod Laws
