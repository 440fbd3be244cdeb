-- A text of a ticket's lines is short: it has at most 148 bytes. Assumes nothing.
use Rattle.std.specs.Prelude.{ℕ, ◌+◌, ◌≤◌, ◌≡◌, List, [], ◌∷◌, length, Some, Ok}
use Rattle.std.proofs.Common.{⊎_elim, length-append, arith}
use Rattle.text.specs.Names.{formula_name, white_name}
use Rattle.text.specs.Number.{decimal_of, signed_of}
use Rattle.text.specs.Number.Laws.{digits_lt}
use Rattle.text.specs.Put.{line}
use Rattle.text.proofs.Theorems.Put.Laws.{line-length}
use Rattle.reading.specs.declared.decimal.Decimal.{Decimal}
use Rattle.colour.specs.Placed.{Written}
use Rattle.colour.specs.declared.white.White.{White}
use Rattle.colour.specs.declared.white.White.TheVariants.{D65Ten, D65Two, CTen, CTwo}
use Rattle.sheet.specs.declared.formula.Formula.{Formula}
use Rattle.sheet.specs.declared.formula.Formula.TheVariants.{CIELAB, CIE94, CMC}
use Rattle.ticket.specs.Ticket.{space_name, space_of, ticket_of}
use Rattle.ticket.specs.Ticket.Grammar.{Place, key, all_places, without_l_and_c, Reads, Says, text_of, Consists}
use Rattle.ticket.proofs.Theorems.Ticket.Grammar.Free.{named_is}
use Rattle.ticket.proofs.Theorems.Ticket.Grammar.Parted.{DecimalParts, no_point, point, decimal_parts}
use Rattle.ticket.proofs.Theorems.Ticket.Grammar.Parted.{SignedParts, no_minus, minus, signed_parts}
use Rattle.ticket.proofs.Theorems.Ticket.Grammar.Right.{right_exactly}
use Rattle.colour.specs.declared.placed.Space.{Space}
use Rattle.colour.specs.declared.placed.Space.TheVariants.{Xyz, Lab}
use Rattle.ticket.specs.declared.lines.Ticket.{Ticket}

-- ---- numbers

decimal-few :
    (whole places : ℕ) (s : List ℕ) {w : ℕ} → decimal_of whole places s ≡ Some w → length s ≤ whole + 1 + places
decimal-few whole places s h = go (decimal_parts whole places s h)
  where
    go : DecimalParts whole places s → length s ≤ whole + 1 + places
    go (no_point e) = omega (arith, (digits_lt whole s e).few)
    go (point u t e hu ht) =
        let before = (digits_lt whole u hu).few in
        let after = (digits_lt places t ht).few in
        rw e (omega (arith, length-append u (46 ∷ t)))

signed-few : (s : List ℕ) {x : Decimal} → signed_of s ≡ Some x → length s ≤ 11
signed-few s h = go (signed_parts s h)
  where
    go : SignedParts s → length s ≤ 11
    go (no_minus e) = omega (arith, decimal-few 3 6 s e)
    go (minus t e ht) = rw e (omega (arith, decimal-few 3 6 t ht))

reads_few : {p : Space} {v : List ℕ} {r : Written} → Reads p v r → length v ≤ 35
reads_few k =
    let first = signed-few k.first k.x_said in
    let second = signed-few k.second k.y_said in
    let third = signed-few k.third k.z_said in
    rw k.parted (simp length-append (omega arith))

-- ---- names

formula-few : (f : Formula) → length (formula_name f) ≤ 6
formula-few CIELAB = omega arith
formula-few CIE94 = omega arith
formula-few CMC = omega arith

white-few : (w : White) → length (white_name w) ≤ 6
white-few D65Ten = omega arith
white-few D65Two = omega arith
white-few CTen = omega arith
white-few CTwo = omega arith

space-few : (p : Space) → length (space_name p) ≤ 3
space-few Xyz = omega arith
space-few Lab = omega arith

-- ---- a value, a line, the ticket

abbrev most : Place → ℕ
most Place.formula = 6
most Place.white = 6
most Place.l = 6
most Place.c = 6
most Place.tol = 6
most Place.space = 3
most Place.ref = 35
most Place.test = 35

says-few : (t : Ticket) (p : Place) (v : List ℕ) → Says t p v → length v ≤ most p
says-few t Place.formula v h = rw (named_is formula_name _ v h) (formula-few t.settings.formula)
says-few t Place.white v h = rw (named_is white_name _ v h) (white-few t.settings.white)
says-few t Place.l v h = decimal-few 2 3 v h
says-few t Place.c v h = decimal-few 2 3 v h
says-few t Place.tol v h = decimal-few 2 3 v h
says-few t Place.space v h = rw (named_is space_name _ v h) (space-few (space_of t.reference))
says-few t Place.ref v h = reads_few h
says-few t Place.test v h = reads_few h

abbrev pub at_most : List Place → ℕ
at_most [] = 0
at_most (p ∷ ps) = length (key p) + most p + 1 + at_most ps

module _ (t : Ticket) (value : Place → List ℕ) (said : (p : Place) → Says t p (value p)) where
  pub text-few : (ps : List Place) → length (text_of value ps) ≤ at_most ps
  text-few [] = omega arith
  text-few (p ∷ ps) =
      omega (
        arith,
        length-append (line (key p) (value p)) (text_of value ps),
        line-length (key p) (value p),
        says-few t p (value p) (said p),
        text-few ps,
      )

consists-few : {t : Ticket} {s : List ℕ} → Consists t s → length s ≤ 148
consists-few {t} k =
    ⊎_elim (λ e. rw e (text-few t k.value k.said all_places))
    (λ e. rw e.0 (omega (arith, text-few t k.value k.said without_l_and_c)))
    k.text

pub right-few : (s : List ℕ) {t : Ticket} → ticket_of s ≡ Ok t → length s ≤ 148
right-few s {t} e = consists-few ((right_exactly s t).0 e)
