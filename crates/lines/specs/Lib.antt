-- What the contracts of `lines` cite, and the laws that callers go by.
pub mod Lines
-- any two outcomes that a contract admits are equal
pub mod One
