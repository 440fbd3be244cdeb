-- What the contracts of `report` cite, and the laws that callers go by.
-- the twelve lines
pub mod Report
-- the room before and after
pub mod Write
-- any two outcomes that a contract admits are equal
pub mod One
