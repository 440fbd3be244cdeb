-- Any two outcomes that a contract of `text` admits on one input are equal: the result, and the bytes of the lent
-- slice. A contract that is one equation is not listed. Assumes nothing.
use Rattle.std.specs.Prelude.{◌≡◌, List, ℕ, ◌+◌, ◌≤◌, length, Option}
use Rattle.std.proofs.Common.{sym, ◌∙◌}
use Rattle.reading.specs.declared.decimal.Decimal.{Decimal}
use Rattle.text.specs.Bytes.Laws.{Found}
use Rattle.text.specs.Number.{thousandths_of, signed_of}
use Rattle.text.specs.Decimal.{whole_text, decimal_text}
use Rattle.text.specs.Put.{Puts}
use Rattle.text.specs.declared.decimal.Shown.{Shown}

-- ---- a text put into a lent slice: of `put`, and of every function that writes

-- the index after s, and the bytes of the slice
abbrev pub PutsOne : (xs : List ℕ) (at : ℕ) (s : List ℕ) → Type 0
PutsOne xs at s =
    (r q : ℕ) (ys zs : List ℕ) → Puts xs at s r ys → Puts xs at s q zs → (r ≡ q) × (ys ≡ zs)

pub puts_one : (xs : List ℕ) (at : ℕ) (s : List ℕ) → PutsOne xs at s
puts_one xs at s r q ys zs g h = (g.end ∙ sym h.end, g.bytes ∙ sym h.bytes)

-- of `put_whole`
pub put_whole_one : (xs : List ℕ) (at n : ℕ) → PutsOne xs at (whole_text n)
put_whole_one xs at n = puts_one xs at (whole_text n)

-- of `put_decimal`
pub put_decimal_one : (xs : List ℕ) (at : ℕ) (d : Shown) → PutsOne xs at (decimal_text d)
put_decimal_one xs at d = puts_one xs at (decimal_text d)

-- ---- a text's length, with a bound beside it

abbrev pub LengthOne : (s : List ℕ) (most : ℕ) → Type 0
LengthOne s most = (r q : ℕ) → (r ≡ length s) × (r ≤ most) → (q ≡ length s) × (q ≤ most) → r ≡ q

pub length_one : (s : List ℕ) (most : ℕ) → LengthOne s most
length_one s most r q g h = g.0 ∙ sym h.0

-- of `whole_len`
pub whole_len_one : (n : ℕ) → LengthOne (whole_text n) 20
whole_len_one n = length_one (whole_text n) 20

-- of `decimal_len`
pub decimal_len_one : (d : Shown) → LengthOne (decimal_text d) (22 + d.places)
decimal_len_one d = length_one (decimal_text d) (22 + d.places)

-- ---- where a byte first stands: of `find`

pub found_one : (b : ℕ) (s : List ℕ) (r q : ℕ) → Found b s r → Found b s q → r ≡ q
found_one b s r q g h = g.first ∙ sym h.first

-- ---- the number that a text says, or none

-- of `thousandths`
pub thousandths_one : (s : List ℕ) (r q : Option ℕ) → r ≡ thousandths_of s → q ≡ thousandths_of s → r ≡ q
thousandths_one s r q g h = g ∙ sym h

-- of `signed`
pub signed_one : (s : List ℕ) (r q : Option Decimal) → r ≡ signed_of s → q ≡ signed_of s → r ≡ q
signed_one s r q g h = g ∙ sym h
