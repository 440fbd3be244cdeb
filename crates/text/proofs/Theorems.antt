-- Theorems on the definitions of `specs/`, file by file: the laws that callers go by, what a reader may ask, cases.
pub mod Bytes
pub mod Decimal
pub mod Lines
pub mod Number
pub mod One
pub mod Put
