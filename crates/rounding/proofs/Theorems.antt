-- Theorems on the definitions of `specs/`, file by file: the laws that callers go by, what a reader may ask, cases.
pub mod Finer
pub mod Mean
pub mod Nearest
pub mod Root
pub mod Signed
