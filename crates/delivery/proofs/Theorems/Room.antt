-- Theorems on `specs/Room.antt`.
pub mod Laws
