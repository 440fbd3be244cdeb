-- What the contracts of `text` cite, and the laws that callers go by.
-- a text as bytes
pub mod Ascii
-- texts put one after the other into a list of bytes
pub mod Put
-- numbers as decimals
pub mod Decimal
-- the names of formulas and whites
pub mod Names
-- words about bytes
pub mod Bytes
-- numbers in decimal digits
pub mod Number
-- a text's lines
pub mod Lines
