-- What the contracts of `station` cite, and the laws that callers go by.
-- the standard in 20 bytes
pub mod Record
-- runs of loads
pub mod Runs
-- any two outcomes that a contract admits are equal
pub mod One
