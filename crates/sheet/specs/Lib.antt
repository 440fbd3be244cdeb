-- What the contracts of `sheet` cite, and the laws that callers go by.
-- the numbers of formulas, and the ranges of l, c and the tolerance
pub mod Settings
-- the ranges that the functions ask for
pub mod Ranges
-- the step sheet over n, its laws, bounds, facts and cases
pub mod Sheet
