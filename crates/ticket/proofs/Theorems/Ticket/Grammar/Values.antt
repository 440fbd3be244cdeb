-- Three numbers are a reading as `reading_of` has it, of either space, and no value has an LF. Assumes nothing.
use Rattle.std.specs.Prelude.{ℕ, ◌≡◌, Bool, true, false, None, Some}
use Rattle.std.proofs.Math.Path.{refl, sym, ap}
use Rattle.std.proofs.Common.{subst, ◌∙◌, lit<}
use mathlib.Core.List.{List, [], ◌∷◌, ◌++◌, append-nil}
use Rattle.std.proofs.lemmas.Option.{none-some}
use Rattle.text.specs.Ascii.{ascii}
use Rattle.text.specs.Bytes.{index_of, has, before, after, starts_with}
use Rattle.text.proofs.Theorems.Bytes.Parts.{free, free-append, before_append, after-append, parted, after_none}
use Rattle.text.specs.Names.{formula_name, white_name}
use Rattle.text.specs.Number.{digits_of, both, decimal_of, signed_of}
use Rattle.text.specs.Put.{joined}
use Rattle.reading.specs.declared.decimal.Decimal.{Decimal}
use Rattle.colour.specs.Placed.{Written, in_space}
use Rattle.colour.specs.declared.white.White.{White}
use Rattle.colour.specs.declared.white.White.TheVariants.{D65Ten, D65Two, CTen, CTwo}
use Rattle.sheet.specs.declared.formula.Formula.{Formula}
use Rattle.sheet.specs.declared.formula.Formula.TheVariants.{CIELAB, CIE94, CMC}
use Rattle.ticket.specs.Ticket.{space_name, space_of, reading_of}
use Rattle.ticket.specs.Ticket.Grammar.{Place, Reads, Says}
use Rattle.ticket.proofs.Theorems.Ticket.Grammar.Free.{decimal-free, signed-free, named_is}
use Rattle.ticket.proofs.Theorems.Ticket.Grammar.Parted.{both_some}
use Rattle.colour.specs.declared.placed.Space.{Space}
use Rattle.colour.specs.declared.placed.Space.TheVariants.{Xyz, Lab}
use Rattle.ticket.specs.declared.lines.Ticket.{Ticket}

-- ---- three numbers

nothing_said : signed_of [] ≡ None
unfolding signed_of starts_with before index_of decimal_of digits_of
nothing_said = refl

before_nil : before 32 [] ≡ []
unfolding before index_of
before_nil = refl

-- a number that stands after a space, so there is one
after-has : (s : List ℕ) (e : Bool) {z : Decimal} → has 32 s ≡ e → signed_of (after 32 s) ≡ Some z → e ≡ true
after-has s true e h = refl
after-has s false e h = absurd (none-some _ (sym nothing_said ∙ rw (after_none 32 s e) at h))

between_has :
    (s : List ℕ) (e : Bool) {y : Decimal} → has 32 s ≡ e → signed_of (before 32 (after 32 s)) ≡ Some y → e ≡ true
between_has s true e h = refl
between_has s false e h =
    let nothing = ap signed_of (ap (before 32) (after_none 32 s e) ∙ before_nil) ∙ nothing_said in
    absurd (none-some _ (sym nothing ∙ h))

module _ (p : Space) where
  pub reads_of : (v : List ℕ) {r : Written} → reading_of p v ≡ Some r → Reads p v r
  unfolding reading_of
  reads_of v h =
      let t = after 32 v in
      let a = signed_of (before 32 v) in
      let b = signed_of (before 32 t) in
      let g = both_some (λ g z. g z) (both (in_space p) a b) (signed_of (after 32 t)) h in
      let k = both_some (in_space p) a b g.2 in
      let one = between_has v (has 32 v) refl k.3 in
      let two = after-has t (has 32 t) refl g.3 in
      record {
        first = before 32 v;
        second = before 32 t;
        third = after 32 t;
        parted =
            parted 32 v one
            ∙ ap (λ (u : List ℕ). before 32 v ++ (32 ∷ u))
            (parted 32 t two ∙ ap (λ (u : List ℕ). before 32 t ++ (32 ∷ u)) (sym (append-nil (after 32 t))));
        x = k.0;
        y = k.1;
        z = g.1;
        x_said = k.2;
        y_said = k.3;
        z_said = g.3;
        reading = sym g.4 ∙ ap (λ (f : Decimal → Written). f g.1) (sym k.4);
      }

  of_parts :
      (first second third : List ℕ) {x y z : Decimal}
      → signed_of first ≡ Some x → signed_of second ≡ Some y → signed_of third ≡ Some z
      → reading_of p (joined (first ∷ ascii " " ∷ second ∷ ascii " " ∷ third ∷ [])) ≡ Some (in_space p x y z)
  unfolding reading_of
  of_parts first second third hx hy hz =
      let fx = signed-free 32 (lit< tt) first hx in
      let fy = signed-free 32 (lit< tt) second hy in
      let yz = second ++ (32 ∷ third) in
      rw (
        append-nil third,
        before_append 32 first fx yz,
        after-append 32 first fx yz,
        before_append 32 second fy third,
        after-append 32 second fy third,
        hx,
        hy,
        hz,
      )

  -- of either space
  pub of_reads :
      {q : Space} {v : List ℕ} {r : Written} (k : Reads q v r) → reading_of p v ≡ Some (in_space p k.x k.y k.z)
  of_reads k =
      ap (reading_of p) k.parted ∙ of_parts k.first k.second k.third k.x_said k.y_said k.z_said

pub of_said : {p : Space} {v : List ℕ} {r : Written} → Reads p v r → reading_of p v ≡ Some r
of_said k = of_reads _ k ∙ ap Some (sym k.reading)

pub space_in_lem : (x y z : Decimal) (p : Space) → space_of (in_space p x y z) ≡ p
space_in_lem x y z Xyz = refl
space_in_lem x y z Lab = refl

pub space_of_reads : {p : Space} {v : List ℕ} {r : Written} → Reads p v r → space_of r ≡ p
space_of_reads k = ap space_of k.reading ∙ space_in_lem k.x k.y k.z _

pub own_space : {p : Space} {v : List ℕ} {r : Written} → Reads p v r → Reads (space_of r) v r
own_space {v = v} {r = r} k = subst (λ q. Reads q v r) (sym (space_of_reads k)) k

-- ---- no value has an LF

reads_free : {p : Space} {v : List ℕ} {r : Written} → Reads p v r → free 10 v ≡ true
reads_free k =
    let first = signed-free 10 (lit< tt) k.first k.x_said in
    let second = signed-free 10 (lit< tt) k.second k.y_said in
    let third = signed-free 10 (lit< tt) k.third k.z_said in
    rw k.parted
    (free-append 10 k.first _ first (free-append 10 k.second _ second (free-append 10 k.third [] third refl)))

pub free-formula : (f : Formula) → free 10 (formula_name f) ≡ true
free-formula CIELAB = refl
free-formula CIE94 = refl
free-formula CMC = refl

pub free-white : (w : White) → free 10 (white_name w) ≡ true
free-white D65Ten = refl
free-white D65Two = refl
free-white CTen = refl
free-white CTwo = refl

free-space : (p : Space) → free 10 (space_name p) ≡ true
free-space Xyz = refl
free-space Lab = refl

pub says-free : (t : Ticket) (p : Place) (v : List ℕ) → Says t p v → free 10 v ≡ true
says-free t Place.formula v h = rw (named_is formula_name _ v h) (free-formula t.settings.formula)
says-free t Place.white v h = rw (named_is white_name _ v h) (free-white t.settings.white)
says-free t Place.l v h = decimal-free 10 (lit< tt) 2 3 v h
says-free t Place.c v h = decimal-free 10 (lit< tt) 2 3 v h
says-free t Place.tol v h = decimal-free 10 (lit< tt) 2 3 v h
says-free t Place.space v h = rw (named_is space_name _ v h) (free-space (space_of t.reference))
says-free t Place.ref v h = reads_free h
says-free t Place.test v h = reads_free h
