-- Theorems on `specs/Judgement.antt`.
pub mod Laws
pub mod Withheld
