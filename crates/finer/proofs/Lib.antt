-- theorems on the definitions of specs/
pub mod Theorems
