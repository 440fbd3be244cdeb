-- Theorems on `specs/Placed/Exactly.antt`.
pub mod Laws
pub mod Ways
