-- docs/SCOPE.md 10.3: a number as a decimal. `Decimal/Nearest.antt` says which figure is shown, and
-- `Decimal/Signed.antt` with its sign; `Decimal/Laws.antt` has what callers go by, `Number/Written.antt` reads the
-- digits back, and `Decimal/Cases.antt` has some figures. Assumes nothing.
use Rattle.std.specs.Prelude.{Bool, cond, ◌&&◌, List, [], ◌∷◌, ℕ, zero, suc, ◌+◌, ◌*◌, ◌/◌, ◌%◌, ◌^◌, ltb}
use Rattle.rounding.specs.Nearest.{nearest_up}
use Rattle.text.specs.Ascii.{ascii}
use Rattle.text.specs.Put.{joined}
use Rattle.text.specs.declared.decimal.Shown.{Shown}

-- m units, of which per_one make one, counted in units of 10 ^ -places: to the nearest, a tie upwards, as a reading's
-- magnitude is. Every figure of a report is rounded here.
unfoldable pub shown : (places per_one m : ℕ) → ℕ
shown places per_one m = nearest_up (m * 10 ^ places) per_one

-- ---- digits

-- the last k digits of n, the first of them at 10 ^ (k - 1)
unfoldable pub last_digits : (k n : ℕ) → List ℕ
last_digits zero n = []
last_digits (suc k) n = (48 + n / 10 ^ k % 10) ∷ last_digits k n

-- how many digits n has without leading zeros, but at least one, counted in k turns at most
unfoldable pub width_in : (k n : ℕ) → ℕ
width_in zero n = 1
width_in (suc k) n = cond (ltb n 10) 1 (width_in k (n / 10) + 1)

-- twenty turns are enough below 10 ^ 20, and so below 2 ^ 64
abbrev pub width : ℕ → ℕ
width n = width_in 20 n

-- a whole number, without leading zeros
abbrev pub whole_text : ℕ → List ℕ
whole_text n = last_digits (width n) n

-- ---- a decimal

-- a minus, if one is to be shown
abbrev pub minus_sign : Bool → List ℕ
minus_sign shows = cond shows (ascii "-") []

-- the sign, the whole ones, a point, the places
abbrev pub decimal_pieces : Shown → List (List ℕ)
decimal_pieces d = minus_sign d.minus ∷ whole_text d.whole ∷ ascii "." ∷ last_digits d.places d.units ∷ []

unfoldable pub decimal_text : Shown → List ℕ
decimal_text d = joined (decimal_pieces d)

-- n units of 10 ^ -places, as they are
abbrev pub with_places : (places : ℕ) (minus : Bool) (n : ℕ) → Shown
with_places places minus n = record { places = places; minus = minus; whole = n / 10 ^ places; units = n }

-- m units, of which per_one make one, with so many places: a minus only if a digit that is not zero is shown
abbrev pub shown_as : (places per_one : ℕ) (below : Bool) (m : ℕ) → Shown
shown_as places per_one below m =
    let s : ℕ = shown places per_one m in
    with_places places (below && ltb 0 s) s
