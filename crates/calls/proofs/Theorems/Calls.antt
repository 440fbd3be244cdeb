-- Theorems on `specs/Calls.antt`.
pub mod Every
pub mod Exact
pub mod Laws
pub mod One
pub mod Results
pub mod Ticket
