-- What the contracts of `angle` cite, and the laws that callers go by.
-- the cosine and the sine of each whole degree
pub mod Table
-- the hue angle
pub mod Angle
-- what its functions ask for
pub mod Ranges
