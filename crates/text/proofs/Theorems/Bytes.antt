-- Theorems on `specs/Bytes.antt`.
pub mod Library
pub mod Parts
