-- What the proofs of the functions share.
-- which readings are turned away where `Ok` is asked for
pub mod NoUnits
-- theorems on the definitions of specs/
pub mod Theorems
