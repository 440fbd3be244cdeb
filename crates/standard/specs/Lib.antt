-- What the contracts of `standard` cite, and the laws that callers go by.
-- the refusals' one order
pub mod Refusals
-- what settings and a reference come to
pub mod Acceptance
-- what a test specimen comes to
pub mod Judgement
-- the same as floats
pub mod Figures
