-- Theorems on `specs/Names.antt`.
pub mod Cases
pub mod Laws
pub mod Withheld
