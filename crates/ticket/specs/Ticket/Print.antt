-- A ticket's text: l, c and tol with three decimals, the numbers of ref and test with six. It stands here only to be
-- parsed back in Ticket/Theorems.antt. Assumes nothing.
use Rattle.std.specs.Prelude.{ℕ, ◌^◌, ◌<◌, ◌≡◌, false, List, [], ◌∷◌}
use Rattle.text.specs.Ascii.{ascii}
use Rattle.text.specs.Decimal.{decimal_text, with_places}
use Rattle.text.specs.Names.{formula_name, white_name}
use Rattle.text.specs.Put.{joined}
use Rattle.reading.specs.declared.decimal.Decimal.{Decimal}
use Rattle.colour.specs.Placed.{Written}
use Rattle.colour.specs.declared.placed.Values.TheVariants as W
use Rattle.ticket.specs.Ticket.{space_name, space_of}
use Rattle.ticket.specs.Ticket.Grammar.{Place, all_places, without_l_and_c, text_of}
use Rattle.ticket.specs.declared.lines.Ticket.{Ticket}

-- ---- readings

abbrev pub number : Decimal → List ℕ
number d = decimal_text (with_places 6 d.below d.millionths)

abbrev pub triple : (x y z : Decimal) → List ℕ
triple x y z = joined (number x ∷ ascii " " ∷ number y ∷ ascii " " ∷ number z ∷ [])

unfoldable pub reading_text : Written → List ℕ
reading_text (W.Xyz x y z) = triple x y z
reading_text (W.Lab x y z) = triple x y z

-- ---- lines

abbrev pub thousandths_text : ℕ → List ℕ
thousandths_text m = decimal_text (with_places 3 false m)

-- the value in each place
abbrev pub printed : Ticket → Place → List ℕ
printed t Place.formula = formula_name t.settings.formula
printed t Place.white = white_name t.settings.white
printed t Place.l = thousandths_text t.settings.l
printed t Place.c = thousandths_text t.settings.c
printed t Place.tol = thousandths_text t.settings.tolerance
printed t Place.space = space_name (space_of t.reference)
printed t Place.ref = reading_text t.reference
printed t Place.test = reading_text t.test

unfoldable pub print_ticket : Ticket → List ℕ
print_ticket t = text_of (printed t) all_places

-- the same without the lines l and c
unfoldable pub print_short : Ticket → List ℕ
print_short t = text_of (printed t) without_l_and_c

-- ---- the tickets that have a text

abbrev pub Fits : Written → Type 0
Fits (W.Xyz x y z) = (x.millionths < 10 ^ 9) × (y.millionths < 10 ^ 9) × (z.millionths < 10 ^ 9)
Fits (W.Lab x y z) = (x.millionths < 10 ^ 9) × (y.millionths < 10 ^ 9) × (z.millionths < 10 ^ 9)

pub record Writable (t : Ticket) : Type 0 where
  pub l_fits : t.settings.l < 10 ^ 5
  pub c_fits : t.settings.c < 10 ^ 5
  pub tolerance-fits : t.settings.tolerance < 10 ^ 5
  pub reference-fits : Fits t.reference
  pub test_fits : Fits t.test
  pub one_space : space_of t.test ≡ space_of t.reference
