-- What the proofs of the functions share.
pub mod Fits
-- theorems on the definitions of specs/
pub mod Theorems
