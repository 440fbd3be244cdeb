-- By what `proofs/Theorems/Sheet/Apart.antt` speaks.
pub mod Ray
