-- Theorems on `specs/Ticket/Grammar.antt`.
pub mod Cases
pub mod Free
pub mod Lengths
pub mod Parted
pub mod Read
pub mod Right
pub mod Spelt
pub mod Steps
pub mod Tells
pub mod Values
pub mod Wrong
