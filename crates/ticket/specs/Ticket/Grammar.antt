-- The ticket's grammar of docs/SCOPE.md 9.1 to 9.3, said of a text's lines: which line is due in which place, when one
-- is right, which is the first wrong one, and which ticket a right text says. It does not follow the steps of a parser:
-- `wrong_exactly` of Grammar/Wrong.antt and `right_exactly` of Grammar/Right.antt show that `ticket_of`, which the code
-- computes, is exactly this. Definitions only. Assumes nothing.
use Rattle.std.specs.Prelude.{ℕ, ◌≤◌, ◌<◌, ◌≡◌, true, cond, ◌⊎◌, List, [], ◌∷◌, ◌++◌, map, length, None, Some}
use Rattle.text.specs.Ascii.{ascii}
use Rattle.text.specs.Lines.{Line, content, is_ended, lines_of, nth, starts_line}
use Rattle.text.specs.Number.{thousandths_of, signed_of}
use Rattle.text.specs.Put.{joined, line}
use Rattle.reading.specs.declared.decimal.Decimal.{Decimal}
use Rattle.colour.specs.Placed.{Written, in_space}
use Rattle.ticket.specs.Ticket.{formula_named, white_named, space_named, space_of, missing_l, missing_c}
use Rattle.colour.specs.declared.placed.Space.{Space}
use Rattle.ticket.specs.declared.lines.Ticket.{Ticket}

-- ---- the places of a ticket's lines

pub data Place : Type 0 where
  formula white l c tol space ref test : Place

abbrev pub key : Place → List ℕ
key formula = ascii "formula="
key white = ascii "white="
key l = ascii "l="
key c = ascii "c="
key tol = ascii "tol="
key space = ascii "space="
key ref = ascii "ref="
key test = ascii "test="

-- keys once and in this order
abbrev pub all_places : List Place
all_places = formula ∷ white ∷ l ∷ c ∷ tol ∷ space ∷ ref ∷ test ∷ []

-- l and c may both be missing
abbrev pub without_l_and_c : List Place
without_l_and_c = formula ∷ white ∷ tol ∷ space ∷ ref ∷ test ∷ []

-- line 3 starting with tol= says so
unfoldable pub form_of : List ℕ → List Place
form_of s = cond (starts_line (key tol) (nth 3 (lines_of s))) without_l_and_c all_places

-- ---- what a value says

-- three numbers, one space between, are a reading r of the space p
pub record Reads (p : Space) (value : List ℕ) (r : Written) : Type 0 where
  pub first : List ℕ
  pub second : List ℕ
  pub third : List ℕ
  pub parted : value ≡ joined (first ∷ ascii " " ∷ second ∷ ascii " " ∷ third ∷ [])
  pub x : Decimal
  pub y : Decimal
  pub z : Decimal
  pub x_said : signed_of first ≡ Some x
  pub y_said : signed_of second ≡ Some y
  pub z_said : signed_of third ≡ Some z
  pub reading : r ≡ in_space p x y z

-- in this place the value says what the ticket has there; the line space speaks of both readings
abbrev pub Says : Ticket → Place → (value : List ℕ) → Type 0
Says t formula value = formula_named value ≡ Some t.settings.formula
Says t white value = white_named value ≡ Some t.settings.white
Says t l value = thousandths_of value ≡ Some t.settings.l
Says t c value = thousandths_of value ≡ Some t.settings.c
Says t tol value = thousandths_of value ≡ Some t.settings.tolerance
Says t space value = space_named value ≡ Some (space_of t.reference)
Says t ref value = Reads (space_of t.reference) value t.reference
Says t test value = Reads (space_of t.reference) value t.test

-- ---- right and wrong lines

-- the line is ended by LF, and is the place's key and a value that says what some ticket has there, whatever its space
pub record RightFor (p : Place) (x : Line) : Type 0 where
  pub value : List ℕ
  pub ends : is_ended x ≡ true
  pub whole : content x ≡ key p ++ value
  pub ticket : Ticket
  pub said : Says ticket p value

-- line n, counted from 1, is there and right for its place; after the last place nothing follows
pub data RightAt (n : ℕ) (s : List ℕ) : Type 0 where
  right-line :
      {p : Place} {x : Line} → nth n (form_of s) ≡ Some p → nth n (lines_of s) ≡ Some x → RightFor p x → RightAt n s
  nothing_follows : nth n (form_of s) ≡ None → nth n (lines_of s) ≡ None → RightAt n s

-- lines 1 to n - 1 are
abbrev pub RightBefore : ℕ → List ℕ → Type 0
RightBefore n s = (m : ℕ) → 0 < m → m < n → RightAt m s

-- a text over 4,096 bytes is wrong at line 0, any other at its first line that is not right
pub data WrongAt (n : ℕ) (s : List ℕ) : Type 0 where
  too_long : n ≡ 0 → 4096 < length s → WrongAt n s
  first_wrong : 0 < n → length s ≤ 4096 → RightBefore n s → ¬ RightAt n s → WrongAt n s

-- ---- right texts

-- the lines of these places, each its key, its value and LF
abbrev pub text_of : (value : Place → List ℕ) → List Place → List ℕ
text_of value ps = joined (map (λ p. line (key p) (value p)) ps)

-- the text consists of a right ticket's lines, and their values say the ticket t; where the lines l and c are missing,
-- t has 2.000 and 1.000
pub record Consists (t : Ticket) (s : List ℕ) : Type 0 where
  pub value : Place → List ℕ
  pub said : (p : Place) → Says t p (value p)
  pub text :
      (s ≡ text_of value all_places)
      ⊎ ((s ≡ text_of value without_l_and_c) × (t.settings.l ≡ missing_l) × (t.settings.c ≡ missing_c))
  pub at_most_lem : length s ≤ 4096
