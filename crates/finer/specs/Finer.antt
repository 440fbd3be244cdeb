-- docs/SCOPE.md 2.3: no finer sheet changes a verdict. For each formula, any two colours of the grid, l and c
-- from 0.5 to 10, a tolerance from 0.1 to 10 and every n from 20 up; of `sheet` and `verdict`, which the contracts of
-- `sheet` cite.
--
-- DE20 is the DE that the station works out, in units of 2 ^ -20. DEn is the DE of the same sheet, for the same
-- colours, carried to n binary places: in units of 2 ^ -n, of which 2 ^ (n - 20) make one of ours. l, c and the
-- tolerance count thousandths. So in thousandths of a unit of 2 ^ -n DE is 1000 * DEn, the tolerance is
-- tolerance * 2 ^ n, and 0.002 is 2 * 2 ^ n.
--
-- What is to be proved; `proofs/Theorems/Finer.antt` proves it. `Lib.antt` lists the argument's sections,
-- `Finer/Reached.antt` has the bound that it reaches, `Finer/Sharp.antt` why these limits stand here. Assumes nothing.
use Rattle.std.specs.Prelude.{◌≡◌, ℕ, ◌-◌, ◌*◌, ◌^◌, ◌≤◌, ◌<◌}
use Rattle.rounding.specs.Nearest.{apart}
use Rattle.sheet.specs.Sheet.{verdict}
use Rattle.sheet.specs.declared.verdict.Verdict.TheVariants.{Near, Pass, Fail}
pub mod Reached
pub mod Sharp

pub record VerdictKept (n tolerance DE20 DEn : ℕ) : Type 0 where
  -- 1. a pass stays under the tolerance and a fail over it
  pub passes : verdict 20 tolerance DE20 ≡ Pass → 1000 * DEn < tolerance * 2 ^ n
  pub fails : verdict 20 tolerance DE20 ≡ Fail → tolerance * 2 ^ n < 1000 * DEn
  -- 2. near is said exactly when our DE is within 0.002 of the tolerance, both ends counted
  pub near_within : verdict 20 tolerance DE20 ≡ Near → apart (1000 * DE20) (tolerance * 2 ^ 20) ≤ 2 * 2 ^ 20
  pub within-near : apart (1000 * DE20) (tolerance * 2 ^ 20) ≤ 2 * 2 ^ 20 → verdict 20 tolerance DE20 ≡ Near
  -- 3. where our DE is at most 10, no finer sheet moves it by 0.002 or more
  pub unmoved : DE20 ≤ 10 * 2 ^ 20 → 1000 * apart DEn (2 ^ (n - 20) * DE20) < 2 * 2 ^ n
