-- Theorems on `specs/Delivery.antt`.
pub mod Cases
pub mod Facts
pub mod Laws
