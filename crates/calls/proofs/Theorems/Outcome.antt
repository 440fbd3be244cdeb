-- Theorems on `specs/Outcome.antt`.
pub mod Judge
pub mod Load
pub mod Ticket
