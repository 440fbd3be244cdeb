-- What holds of the whole station: the three demands, each a file of statements that is complete in itself.
-- every call answers one of its numbers, each exactly then, and a refused call gives and changes nothing
pub mod Demand1
-- what is answered is the step sheet's, digit for digit, after any run of calls
pub mod Demand2
-- no finer sheet changes a verdict
pub mod Demand3
-- no report is longer than 161 bytes, nor anything else that is printed; one report has them all
pub mod Longest
