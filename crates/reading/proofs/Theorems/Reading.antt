-- Theorems on `specs/Reading.antt`.
pub mod Cases
pub mod Laws
