-- docs/SCOPE.md 8.1, the rules of 1 to 4; and of 9: a slice of another length, or with any of its numbers outside its
-- range, holds no standard, and every other slice holds one (1.4). `Exactly/Laws.antt` has the proof. Assumes nothing.
use Rattle.std.specs.Prelude.{◌≡◌, true, List, ◌⊎◌, ℕ, ◌*◌, ◌^◌, ◌<◌, length, get_or}
use Rattle.rounding.specs.Signed.{∣◌∣, minus}
use Rattle.station.specs.Record.{two, four, of_twos}
pub mod Accepting
pub mod Laws

-- n does not lie from low to high, both counted
abbrev pub Outside : (low high n : ℕ) → Type 0
Outside low high n = (n < low) ⊎ (high < n)

-- 1: no number of a formula: 1 CIELAB, 2 CIE94, 3 CMC
abbrev pub NoFormula : ℕ → Type 0
NoFormula n = Outside 1 3 n

-- 2: no number of a white: 1 to 4
abbrev pub NoWhite : ℕ → Type 0
NoWhite n = Outside 1 4 n

-- 3: l or c outside its range, in thousandths
abbrev pub FactorsOut : (l c : ℕ) → Type 0
FactorsOut l c = Outside 500 10000 l ⊎ Outside 500 10000 c

-- 4: the tolerance outside its range, in thousandths
abbrev pub ToleranceOut : ℕ → Type 0
ToleranceOut t = Outside 100 10000 t

-- 9: the slice's length is not 20, or one of its numbers is outside its range; the colour's are in units of 2 ^ -20
pub data NoStandard (xs : List ℕ) : Type 0 where
  of_length : ¬ (length xs ≡ 20) → NoStandard xs
  of_formula : NoFormula (get_or xs 0 0) → NoStandard xs
  of_white : NoWhite (get_or xs 1 0) → NoStandard xs
  of_factors : FactorsOut (two xs 2) (two xs 4) → NoStandard xs
  of_tolerance : ToleranceOut (two xs 6) → NoStandard xs
  of_lightness : (minus (of_twos (four xs 8)) ≡ true) ⊎ (120 * 2 ^ 20 < ∣ of_twos (four xs 8) ∣) → NoStandard xs
  of_a : 256 * 2 ^ 20 < ∣ of_twos (four xs 12) ∣ → NoStandard xs
  of_b : 256 * 2 ^ 20 < ∣ of_twos (four xs 16) ∣ → NoStandard xs
