-- What the functions' proofs may cite.
pub mod Laws
