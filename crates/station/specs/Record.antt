-- docs/SCOPE.md 1.4, the station's slice: formula 1 byte, white 1, l 2, c 2, tolerance 2, L* 4, a* 4, b* 4, with no
-- padding, the least byte first; the colour in grid units, in two's complement. Assumes nothing.
use Rattle.std.specs.Prelude.{true, cond, List, [], ◌∷◌, ◌++◌, ℕ, ◌+◌, ◌-◌, ◌*◌, ◌/◌, ◌%◌, ◌^◌, ltb, eqb, ℤ, pos, length, get_or, replicate, Result, Ok, Err, Option, Some, None}
use Rattle.rounding.specs.Signed.{∣◌∣, minus, signed}
use Rattle.reading.specs.Grid.{grid_of}
use Rattle.colour.specs.Conversion.{on_grid}
use Rattle.colour.specs.White.{number_of_white}
use Rattle.colour.specs.declared.conversion.GridColour.{GridColour}
use Rattle.colour.specs.Placed.{Placed}
use Rattle.sheet.specs.Settings.{number_of_formula}
use Rattle.sheet.specs.declared.settings.Settings.{Settings}
use Rattle.standard.specs.declared.accept.Standard.{Standard}
use Rattle.colour.specs.declared.refusal.Refusal.{Refusal}
use Rattle.standard.specs.Acceptance.{Acceptance, settings_of, acceptance}
use Rattle.colour.specs.declared.refusal.Refusal.TheVariants as Why
pub mod Laws
pub mod Numbers
pub mod Back
pub mod Exactly

-- ---- numbers as bytes

abbrev pub le2 : ℕ → List ℕ
le2 n = n % 256 ∷ n / 256 % 256 ∷ []

abbrev pub le4 : ℕ → List ℕ
le4 n = n % 256 ∷ n / 256 % 256 ∷ n / 65536 % 256 ∷ n / 16777216 % 256 ∷ []

-- the number of the two bytes from index at, and of the four
unfoldable pub two : (xs : List ℕ) (at : ℕ) → ℕ
two xs at = get_or xs at 0 + get_or xs (at + 1) 0 * 256

unfoldable pub four : (xs : List ℕ) (at : ℕ) → ℕ
four xs at = get_or xs at 0 + get_or xs (at + 1) 0 * 256 + get_or xs (at + 2) 0 * 65536 + get_or xs (at + 3) 0 * 16777216

-- two's complement in 32 bits, and back
unfoldable pub twos_of : ℤ → ℕ
twos_of z = cond (minus z) (2 ^ 32 - ∣ z ∣ % 2 ^ 32) ∣ z ∣

unfoldable pub of_twos : ℕ → ℤ
of_twos n = cond (ltb n (2 ^ 31)) (pos n) (signed true (2 ^ 32 - n))

-- ---- written

unfoldable pub record_of : (formula white l c tolerance L a b : ℕ) → List ℕ
record_of formula white l c tolerance L a b =
    formula % 256 ∷ white % 256 ∷ (le2 l ++ (le2 c ++ (le2 tolerance ++ (le4 L ++ (le4 a ++ le4 b)))))

unfoldable pub encode : Standard → List ℕ
encode s =
    let by : Settings = s.settings in
    record_of (number_of_formula by.formula) (number_of_white by.white) by.l by.c by.tolerance
    (twos_of s.colour.L.0) (twos_of s.colour.a.0) (twos_of s.colour.b.0)

-- the slice after a standard is stored in it: one of another length stays
unfoldable pub store_in : Standard → List ℕ → List ℕ
store_in s xs = cond (eqb (length xs) 20) (encode s) xs

-- ---- read: what the numbers would be accepted as

abbrev pub settings_in : List ℕ → Result Settings Refusal
settings_in xs = settings_of (get_or xs 0 0) (get_or xs 1 0) (two xs 2) (two xs 4) (two xs 6)

abbrev pub colour_in : List ℕ → GridColour
colour_in xs =
    record { L = grid_of (of_twos (four xs 8)); a = grid_of (of_twos (four xs 12)); b = grid_of (of_twos (four xs 16)) }

-- one that lies beyond the grid is out of range
unfoldable pub placed : GridColour → Placed
placed c = cond (on_grid c) (Ok c) (Err Why.OutOfRange)

abbrev pub held_as : Acceptance → Option Standard
held_as (Err n) = None
held_as (Ok s) = Some s

abbrev pub held_by : Result Settings Refusal → Placed → Option Standard
held_by (Err n) reference = None
held_by (Ok s) reference = held_as (acceptance s reference)

-- a slice of another length, or with any number out of its range, holds no standard
unfoldable pub decode : List ℕ → Option Standard
decode xs = cond (eqb (length xs) 20) (held_by (settings_in xs) (placed (colour_in xs))) None

-- a slice that the host has just cleared
unfoldable pub zeros : List ℕ
zeros = replicate 20 0
