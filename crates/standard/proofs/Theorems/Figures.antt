-- Theorems on `specs/Figures.antt`.
pub mod Exact
