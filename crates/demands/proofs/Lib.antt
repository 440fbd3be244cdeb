-- theorems by the statements of specs/
pub mod Theorems
