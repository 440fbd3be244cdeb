-- Theorems on `specs/Decimal.antt`.
pub mod Cases
pub mod Laws
pub mod Nearest
pub mod Signed
