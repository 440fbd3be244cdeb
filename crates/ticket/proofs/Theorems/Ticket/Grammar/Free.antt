-- A value that says something has no LF, and a number no space either, so neither parts it. Assumes nothing.
use Rattle.std.specs.Prelude.{ℕ, ◌+◌, ◌*◌, ◌-◌, ◌<◌, ◌≡◌, Bool, true, false, cond, ◌&&◌, length, Option, None, Some}
use Rattle.std.proofs.Math.Path.{refl}
use Rattle.std.proofs.Common.{ap, ◌∙◌, arith}
use Rattle.std.proofs.lemmas.Bool.{false≢true}
use mathlib.Core.List.{List, [], ◌∷◌}
use Rattle.std.proofs.lemmas.Option.{none-some, same_Some}
use Rattle.std.proofs.Math.Dec.{leb}
use borrow.Author.Tests.{leb-true, ne_eqb}
use Rattle.text.specs.Bytes.{same_bytes}
use Rattle.text.proofs.Theorems.Bytes.Parts.{free, free-append, same_is}
use Rattle.text.specs.Number.{numeral, digits_of, decimal_of, signed_of}
use Rattle.reading.specs.declared.decimal.Decimal.{Decimal}
use Rattle.ticket.specs.Ticket.{named}
use Rattle.ticket.proofs.Theorems.Ticket.Grammar.Parted.{DecimalParts, no_point, point, decimal_parts}
use Rattle.ticket.proofs.Theorems.Ticket.Grammar.Parted.{SignedParts, no_minus, minus, signed_parts}

-- ---- a test that passed

cond_some : {A : Type 0} (e : Bool) {o : Option A} {x : A} → cond e o None ≡ Some x → (e ≡ true) × (o ≡ Some x)
cond_some true h = (refl, h)
cond_some false h = absurd (none-some _ h)

and_both : (e : Bool) {f : Bool} → e && f ≡ true → (e ≡ true) × (f ≡ true)
and_both true h = (refl, h)
and_both false h = absurd (false≢true h)

-- ---- a number has neither LF nor space

module _ (b : ℕ) (small : b < 45) where
  numeral-free : (s : List ℕ) (v : ℕ) {w : ℕ} → numeral v s ≡ Some w → free b s ≡ true
  unfolding numeral
  numeral-free [] v h = refl
  numeral-free (d ∷ s) v h =
      let g = cond_some (leb 48 d && leb d 57) h in
      let low = leb-true 48 d (and_both (leb 48 d) g.0).0 in
      rw (ne_eqb d b (λ e. absurd (omega arith))) (numeral-free s (v * 10 + (d - 48)) g.1)

  digits-free : (most : ℕ) (s : List ℕ) {w : ℕ} → digits_of most s ≡ Some w → free b s ≡ true
  unfolding digits_of
  digits-free most s h = numeral-free s 0 (cond_some (leb 1 (length s) && leb (length s) most) h).1

  pub decimal-free : (whole places : ℕ) (s : List ℕ) {w : ℕ} → decimal_of whole places s ≡ Some w → free b s ≡ true
  decimal-free whole places s h = go (decimal_parts whole places s h)
    where
      go : DecimalParts whole places s → free b s ≡ true
      go (no_point e) = digits-free whole s e
      go (point u t e hu ht) =
          let after : free b (46 ∷ t) ≡ true = rw (ne_eqb 46 b (λ q. absurd (omega arith))) (digits-free places t ht) in
          rw e (free-append b u (46 ∷ t) (digits-free whole u hu) after)

  pub signed-free : (s : List ℕ) {x : Decimal} → signed_of s ≡ Some x → free b s ≡ true
  signed-free s h = go (signed_parts s h)
    where
      go : SignedParts s → free b s ≡ true
      go (no_minus e) = decimal-free 3 6 s e
      go (minus t e ht) = rw e (rw (ne_eqb 45 b (λ q. absurd (omega arith))) (decimal-free 3 6 t ht))

-- ---- a name says what bears it

module _ {A : Type 0} (name : A → List ℕ) where
  named_by :
      (s : List ℕ) (y : A) (e : Bool) {o : Option A} {x : A} → same_bytes s (name y) ≡ e → (o ≡ Some x → s ≡ name x)
      → cond e (Some y) o ≡ Some x → s ≡ name x
  named_by s y true e ih h = same_is s (name y) e ∙ ap name (same_Some _ _ h)
  named_by s y false e ih h = ih h

  pub named_is : (xs : List A) (s : List ℕ) {x : A} → named name xs s ≡ Some x → s ≡ name x
  unfolding named
  named_is [] s h = absurd (none-some _ h)
  named_is (y ∷ xs) s h = named_by s y (same_bytes s (name y)) refl (named_is xs s) h
