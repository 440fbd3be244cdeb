-- A text in which a ticket was found, line by line: each is its key, what the ticket has there, and LF.
-- Assumes nothing.
use Rattle.std.specs.Prelude.{ℕ, ◌+◌, ◌≡◌, Bool, true, false, cond, ◌&&◌, length, drop, Option, None, Some, Ok}
use Rattle.std.proofs.Math.Path.{refl, sym, ap, subst}
use Rattle.std.proofs.Common.{◌∙◌, arith}
use mathlib.Core.List.{List, [], ◌∷◌, ◌++◌, append_assoc}
use Rattle.text.specs.Bytes.{has, before, after, starts_with}
use Rattle.text.proofs.Theorems.Bytes.Parts.{parted, starts_is}
use Rattle.text.specs.Number.{thousandths_of}
use Rattle.text.specs.Put.{line}
use Rattle.colour.specs.Placed.{Written}
use Rattle.sheet.specs.declared.settings.Settings.{Settings}
use Rattle.ticket.specs.Ticket.{space_named, space_of, reading_of, or_wrong, due, nothing_more, test_line, ref_line}
use Rattle.ticket.specs.Ticket.{space_line, tol_line, filled, Parsed, wrong_line}
use Rattle.ticket.specs.Ticket.Grammar.{Place, key, Reads, Says}
use Rattle.ticket.proofs.Theorems.Ticket.Grammar.Values.{reads_of, space_of_reads, own_space}
use Rattle.colour.specs.declared.placed.Space.{Space}
use Rattle.ticket.specs.declared.lines.Ticket.{Ticket}

pub wrong-right : {n : ℕ} {t : Ticket} → wrong_line n ≡ Ok t → ⊥
wrong-right e = let z : ◌≡◌ {A = ℕ} 0 1 = cc in omega arith

right_injective : {t u : Ticket} → ◌≡◌ {A = Parsed} (Ok t) (Ok u) → t ≡ u
right_injective e = cc

-- ---- a line that was due and right, and what was made of the rest

pub record Read
    {A : Type 0} (p : Place) (value : List ℕ → Option A) (next : A → List ℕ → Parsed) (r : List ℕ) (t : Ticket)
    : Type 0 where
  pub said : List ℕ
  pub rest : List ℕ
  pub text : r ≡ line (key p) said ++ rest
  pub what : A
  pub says : value said ≡ Some what
  pub after-it : next what rest ≡ Ok t

module _ {A : Type 0} (n : ℕ) (p : Place) (value : List ℕ → Option A) (next : A → List ℕ → Parsed) (r : List ℕ) where
  abbrev v : List ℕ
  v = drop (length (key p)) (before 10 r)

  line-text : has 10 r ≡ true → starts_with (key p) (before 10 r) ≡ true → r ≡ line (key p) v ++ after 10 r
  unfolding line
  line-text h e =
      let t = after 10 r in
      let joined : (key p ++ (v ++ (10 ∷ []))) ++ t ≡ (key p ++ v) ++ (10 ∷ t) = simp append_assoc in
      parted 10 r h ∙ ap (λ (u : List ℕ). u ++ (10 ∷ t)) (starts_is (key p) (before 10 r) e) ∙ sym joined

  read_by :
      {t : Ticket} (h : Bool) → has 10 r ≡ h → (k : Bool) → starts_with (key p) (before 10 r) ≡ k
      → (o : Option A) → value v ≡ o
      → cond (h && k) (or_wrong n o (λ x. next x (after 10 r))) (wrong_line n) ≡ Ok t → Read p value next r t
  read_by false h k ek o eo e = absurd (wrong-right e)
  read_by true h false ek o eo e = absurd (wrong-right e)
  read_by true h true ek None eo e = absurd (wrong-right e)
  read_by true h true ek (Some x) eo e =
      record { said = v; rest = after 10 r; text = line-text h ek; what = x; says = eo; after-it = e }

  pub read : {t : Ticket} → due n (key p) value next r ≡ Ok t → Read p value next r t
  unfolding due
  read e = read_by (has 10 r) refl (starts_with (key p) (before 10 r)) refl (value v) refl e

-- ---- the lines, the last one first: what the text is from there on, and that the ticket has what was read before

-- the text is the lines of these places, and each value says what the ticket has there
abbrev pub Spelt : Ticket → List Place → List ℕ → Type 0
Spelt t [] r = r ≡ []
Spelt t (p ∷ ps) r = (v : List ℕ) × (rest : List ℕ) × (r ≡ line (key p) v ++ rest) × Says t p v × Spelt t ps rest

nothing_more_lem : (n : ℕ) (u t : Ticket) (r : List ℕ) → nothing_more n u r ≡ Ok t → (r ≡ []) × (u ≡ t)
unfolding nothing_more
nothing_more_lem n u t [] e = (refl, right_injective e)
nothing_more_lem n u t (x ∷ r) e = absurd (wrong-right e)

abbrev pub from_tol : List Place
from_tol = Place.tol ∷ Place.space ∷ Place.ref ∷ Place.test ∷ []

module _ (t : Ticket) where
  test_spelt :
      (n : ℕ) (p : Settings) (q : Space) (u : Written) (r : List ℕ) → space_of u ≡ q → test_line n p q u r ≡ Ok t
      → (t.settings ≡ p) × (t.reference ≡ u) × Spelt t (Place.test ∷ []) r
  unfolding test_line
  test_spelt n p q u r h e =
      let a = read n Place.test (reading_of q) _ r e in
      let k = subst (λ (w : Space). Reads w a.said a.what) (sym h) (reads_of q a.said a.says) in
      let found : Ticket = record { settings = p; reference = u; test = a.what } in
      let end = nothing_more_lem (n + 1) found t a.rest a.after-it in
      subst (λ (w : Ticket). (w.settings ≡ p) × (w.reference ≡ u) × Spelt w (Place.test ∷ []) r) end.1
      (refl, refl, (a.said, a.rest, a.text, k, end.0))

  ref_spelt :
      (n : ℕ) (p : Settings) (q : Space) (r : List ℕ) → ref_line n p q r ≡ Ok t
      → (t.settings ≡ p) × (space_of t.reference ≡ q) × Spelt t (Place.ref ∷ Place.test ∷ []) r
  unfolding ref_line
  ref_spelt n p q r e =
      let a = read n Place.ref (reading_of q) _ r e in
      let k = reads_of q a.said a.says in
      let b = test_spelt (n + 1) p q a.what a.rest (space_of_reads k) a.after-it in
      let own = subst (λ (w : Written). Reads (space_of w) a.said w) (sym b.1) (own_space k) in
      (b.0, ap space_of b.1 ∙ space_of_reads k, (a.said, a.rest, a.text, own, b.2))

  space_spelt :
      (n : ℕ) (p : Settings) (r : List ℕ) → space_line n p r ≡ Ok t
      → (t.settings ≡ p) × Spelt t (Place.space ∷ Place.ref ∷ Place.test ∷ []) r
  unfolding space_line
  space_spelt n p r e =
      let a = read n Place.space space_named _ r e in
      let b = ref_spelt (n + 1) p a.what a.rest a.after-it in
      (b.0, (a.said, a.rest, a.text, a.says ∙ ap Some (sym b.1), b.2))

  -- all but the tolerance
  pub record Kept (p : Settings) : Type 0 where
    pub formula : t.settings.formula ≡ p.formula
    pub white : t.settings.white ≡ p.white
    pub l : t.settings.l ≡ p.l
    pub c : t.settings.c ≡ p.c

  pub tol_spelt : (n : ℕ) (p : Settings) (r : List ℕ) → tol_line n p r ≡ Ok t → Kept p × Spelt t from_tol r
  unfolding tol_line
  tol_spelt n p r e =
      let a = read n Place.tol thousandths_of _ r e in
      let b = space_spelt (n + 1) (filled p p.l p.c a.what) a.rest a.after-it in
      let kept : Kept p =
      record {
        formula = ap (λ (u : Settings). u.formula) b.0;
        white = ap (λ (u : Settings). u.white) b.0;
        l = ap (λ (u : Settings). u.l) b.0;
        c = ap (λ (u : Settings). u.c) b.0;
      } in
      (kept, (a.said, a.rest, a.text, a.says ∙ ap (λ (u : Settings). Some u.tolerance) (sym b.0), b.1))
