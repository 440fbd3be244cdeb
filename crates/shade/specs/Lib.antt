-- What the contracts of `shade` cite, and what is shown of them.
-- the version
pub mod Version
-- any two outcomes that one admits are equal
pub mod One
