-- Theorems on the definitions of `specs/`, file by file: the laws that callers go by, what a reader may ask, cases.
pub mod Conversion
pub mod Placed
pub mod Refusal
