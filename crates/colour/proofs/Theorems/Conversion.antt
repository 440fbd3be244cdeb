-- Theorems on `specs/Conversion.antt`.
pub mod Cases
pub mod Laws
pub mod Places
