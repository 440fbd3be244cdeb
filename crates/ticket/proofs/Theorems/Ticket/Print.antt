-- Theorems on `specs/Ticket/Print.antt`.
pub mod Laws
