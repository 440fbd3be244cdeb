-- Theorems on `specs/Signed.antt`.
pub mod Difference
pub mod Laws
