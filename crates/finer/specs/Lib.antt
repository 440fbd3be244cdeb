-- docs/SCOPE.md 2.3: no finer sheet changes a verdict. What a reader must believe, then the argument in its sections;
-- docs/FINER.md has a table of its steps, by the numbers that stand at the lemmas.
-- the theorem; Reached has the bound that the argument reaches, Sharp why the theorem's limits stand there
pub mod Finer
-- 1: fractions and square roots on the products of the sheet
pub mod Products
-- 2: loose sheets; the sheet at n places, and K times the sheet at 20, are two of them, of the same colours
pub mod Loose
-- 3 and 4: under each formula the semi-axes of two loose sheets are close
pub mod Close
-- 5: then so are their DE, whatever the formula
pub mod Core
-- 6: so DE moves by little, and a verdict stays
pub mod Moves
