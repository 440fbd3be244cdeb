-- Theorems on `specs/Sums.antt`.
pub mod Laws
