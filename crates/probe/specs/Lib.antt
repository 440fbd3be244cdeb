-- What the contracts of `probe` cite.
-- one number, or one colour
pub mod Ground
-- what load, judge and ticket hand back
pub mod Answers
-- any two outcomes that a contract admits are equal
pub mod One
