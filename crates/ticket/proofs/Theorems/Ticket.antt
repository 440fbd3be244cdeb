-- Theorems on `specs/Ticket.antt`.
pub mod AsWritten
pub mod Cases
pub mod Grammar
pub mod Print
pub mod Theorems
