-- What callers use of the settings: that numbers name what they are the numbers of, and each range's ends as facts.
-- Assumes nothing.
use Rattle.std.specs.Prelude.{◌≡◌, refl, true, false, ℕ, ◌≤◌, ◌<◌, leb, Some}
use borrow.Author.Tests.{le-leb, lt-leb, leb-true}
use Rattle.colour.proofs.Theorems.Conversion.Laws.{both_true}
use Rattle.sheet.specs.Settings.{number_of_formula, formula_numbered, within, is_factor, is_tolerance, Factor}
use Rattle.sheet.specs.Settings.{Tolerance}
use Rattle.sheet.specs.declared.formula.Formula.{Formula}
use Rattle.sheet.specs.declared.formula.Formula.TheVariants.{CIELAB, CIE94, CMC}

pub formula-numbered : (f : Formula) → formula_numbered (number_of_formula f) ≡ Some f
unfolding formula_numbered
formula-numbered CIELAB = refl
formula-numbered CIE94 = refl
formula-numbered CMC = refl

-- ---- from low to high

module _ (low high n : ℕ) where
  pub within_below : n < low → within low high n ≡ false
  unfolding within
  within_below h = rw (lt-leb low n h)

  pub within_not_below : low ≤ n → within low high n ≡ leb n high
  unfolding within
  within_not_below h = rw (le-leb low n h)

  pub within_in : low ≤ n → n ≤ high → within low high n ≡ true
  unfolding within
  within_in l h = rw (le-leb low n l, le-leb n high h)

  pub within_true : within low high n ≡ true → (low ≤ n) × (n ≤ high)
  unfolding within
  within_true e = let (p, q) = both_true (leb low n) (leb n high) e in (leb-true low n p, leb-true n high q)

-- ---- l or c, and a tolerance: the test passes exactly on the range

pub factor_of : {l : ℕ} → is_factor l ≡ true → Factor l
factor_of {l} e = let (p, q) = within_true 500 10000 l e in record { low = p; high = q }

pub of_factor : {l : ℕ} → Factor l → is_factor l ≡ true
of_factor {l} h = within_in 500 10000 l h.low h.high

pub tolerance_of : {t : ℕ} → is_tolerance t ≡ true → Tolerance t
tolerance_of {t} e = let (p, q) = within_true 100 10000 t e in record { low = p; high = q }

pub of_tolerance : {t : ℕ} → Tolerance t → is_tolerance t ≡ true
of_tolerance {t} h = within_in 100 10000 t h.low h.high
