-- docs/SCOPE.md 3.3, 8.1: the formulas' numbers, and the ranges of l, c and the tolerance. Assumes nothing.
use Rattle.std.specs.Prelude.{Bool, cond, ◌&&◌, ℕ, ◌≤◌, leb, eqb, Option, Some, None}
use Rattle.sheet.specs.declared.formula.Formula.{Formula}
use Rattle.sheet.specs.declared.formula.Formula.TheVariants.{CIELAB, CIE94, CMC}

-- ---- formulas by number

-- by which a load names them
abbrev pub number_of_formula : Formula → ℕ
number_of_formula CIELAB = 1
number_of_formula CIE94 = 2
number_of_formula CMC = 3

-- the formula of a number, if there is one
unfoldable pub formula_numbered : ℕ → Option Formula
formula_numbered n = cond (eqb n 1) (Some CIELAB) (cond (eqb n 2) (Some CIE94) (cond (eqb n 3) (Some CMC) None))

-- ---- ranges

-- n lies from low to high, both counted
unfoldable pub within : (low high n : ℕ) → Bool
within low high n = leb low n && leb n high

-- l or c, in thousandths
abbrev pub is_factor : (l : ℕ) → Bool
is_factor l = within 500 10000 l

pub record Factor (l : ℕ) : Type 0 where
  pub low : 500 ≤ l
  pub high : l ≤ 10000

-- a tolerance, in thousandths
abbrev pub is_tolerance : (t : ℕ) → Bool
is_tolerance t = within 100 10000 t

pub record Tolerance (t : ℕ) : Type 0 where
  pub low : 100 ≤ t
  pub high : t ≤ 10000
