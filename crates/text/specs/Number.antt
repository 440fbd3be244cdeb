-- docs/SCOPE.md 9.2: numbers in decimal digits. Definitions only: Number/Laws.antt has what the proofs go by.
-- Assumes nothing.
use Rattle.std.specs.Prelude.{ℕ, ◌+◌, ◌-◌, ◌*◌, ◌^◌, Bool, true, false, cond, ◌&&◌, List, [], ◌∷◌, leb, length, drop, Option, None, Some, option_map}
use Rattle.text.specs.Ascii.{ascii}
use Rattle.reading.specs.declared.decimal.Decimal.{Decimal}
use Rattle.text.specs.Bytes.{has, before, after, starts_with}
pub mod Laws

-- the number that digits make, v standing before them
unfoldable pub numeral : ℕ → List ℕ → Option ℕ
numeral v [] = Some v
numeral v (d ∷ s) = cond (leb 48 d && leb d 57) (numeral (v * 10 + (d - 48)) s) None

-- 1 to most digits
unfoldable pub digits_of : ℕ → List ℕ → Option ℕ
digits_of most s = cond (leb 1 (length s) && leb (length s) most) (numeral 0 s) None

-- no point and nothing after it, or a point and 1 to places digits; in units of the last of the places
unfoldable pub fraction_of : ℕ → List ℕ → Option ℕ
fraction_of places s =
    cond (has 46 s) (option_map (λ d. d * 10 ^ (places - length (after 46 s))) (digits_of places (after 46 s))) (Some 0)

abbrev pub both : {A B C : Type 0} → (A → B → C) → Option A → Option B → Option C
both f None q = None
both f (Some x) None = None
both f (Some x) (Some y) = Some (f x y)

-- 1 to whole digits, then perhaps a point and 1 to places digits; in units of the last of the places
unfoldable pub decimal_of : ℕ → ℕ → List ℕ → Option ℕ
decimal_of whole places s = both (λ v d. v * 10 ^ places + d) (digits_of whole (before 46 s)) (fraction_of places s)

-- l, c, tol: 1 or 2 digits, then perhaps a point and 1 to 3 digits
abbrev pub thousandths_of : List ℕ → Option ℕ
thousandths_of = decimal_of 2 3

abbrev pub decimal_below : Bool → ℕ → Decimal
decimal_below below m = record { below = below; millionths = m }

-- ref, test: perhaps a minus, 1 to 3 digits, perhaps a point and 1 to 6 digits
unfoldable pub signed_of : List ℕ → Option Decimal
signed_of s =
    cond (starts_with (ascii "-") s) (option_map (decimal_below true) (decimal_of 3 6 (drop 1 s)))
    (option_map (decimal_below false) (decimal_of 3 6 s))
