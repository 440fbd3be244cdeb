-- Theorems on `specs/Exactly.antt`.
pub mod Judgements
pub mod Loads
pub mod Refused
pub mod Rows
pub mod Rules
pub mod Sorts
pub mod Tickets
