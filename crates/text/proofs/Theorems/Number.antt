-- Theorems on `specs/Number.antt`.
pub mod Written
