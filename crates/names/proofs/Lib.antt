-- What the proofs of the functions share.
pub mod Quarters
-- theorems on the definitions of specs/
pub mod Theorems
