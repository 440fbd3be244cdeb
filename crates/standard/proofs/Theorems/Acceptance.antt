-- Theorems on `specs/Acceptance.antt`.
pub mod Laws
pub mod Numbers
