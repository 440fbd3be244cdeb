-- A text that consists of a ticket's lines is read as that ticket. Assumes nothing.
use Rattle.std.specs.Prelude.{ℕ, ◌+◌, ◌≤◌, ◌≡◌, true, length, Option, Some, Ok}
use Rattle.std.proofs.Math.Path.{refl, sym}
use Rattle.std.proofs.Common.{ap, ◌∙◌, ⊎_elim}
use mathlib.Core.List.{List, [], ◌∷◌, ◌++◌, append_assoc}
use Rattle.std.proofs.Math.Seq.{drop-append_seam}
use Rattle.text.specs.Ascii.{ascii}
use Rattle.text.specs.Bytes.{starts_with}
use Rattle.text.proofs.Theorems.Bytes.Parts.{free, free-append, has-append, before_append, after-append, starts-append}
use Rattle.text.specs.Number.{thousandths_of}
use Rattle.text.specs.Put.{line}
use Rattle.sheet.specs.declared.settings.Settings.{Settings}
use Rattle.ticket.specs.Ticket.{formula_named, white_named, space_named, space_of, reading_of, due, nothing_more}
use Rattle.ticket.specs.Ticket.{test_line, ref_line, space_line, tol_line, c_line, filled, factor_lines, Parsed}
use Rattle.ticket.specs.Ticket.{missing_l, missing_c, blank, white_line, ticket_of}
use Rattle.ticket.specs.Ticket.Grammar.{Place, key, all_places, without_l_and_c, Says, text_of, Consists}
use Rattle.ticket.proofs.Theorems.Ticket.Grammar.Values.{of_said, says-free}
use Rattle.ticket.specs.Ticket.Laws.{factors_missing, factors_given, ticket_of_short}
use Rattle.ticket.specs.declared.lines.Ticket.{Ticket}

pub due-line :
    {A : Type 0} (n : ℕ) (key v rest : List ℕ) (value : List ℕ → Option A) (next : A → List ℕ → Parsed) {x : A}
    → free 10 key ≡ true → free 10 v ≡ true → value v ≡ Some x → due n key value next (line key v ++ rest) ≡ next x rest
unfolding due line
due-line n key v rest value next hk hv e =
    let l = key ++ v in
    let h = free-append 10 key v hk hv in
    let joined : (key ++ (v ++ (10 ∷ []))) ++ rest ≡ l ++ (10 ∷ rest) = simp append_assoc in
    rw (
      joined,
      has-append 10 l h rest,
      before_append 10 l h rest,
      after-append 10 l h rest,
      starts-append key v,
      drop-append_seam key v,
      e,
    )

key-free : (p : Place) → free 10 (key p) ≡ true
key-free Place.formula = refl
key-free Place.white = refl
key-free Place.l = refl
key-free Place.c = refl
key-free Place.tol = refl
key-free Place.space = refl
key-free Place.ref = refl
key-free Place.test = refl

module _ (t : Ticket) (value : Place → List ℕ) (said : (p : Place) → Says t p (value p)) where
  due-said :
      {A : Type 0} (n : ℕ) (p : Place) (rest : List ℕ) (says : List ℕ → Option A) (next : A → List ℕ → Parsed) {x : A}
      → says (value p) ≡ Some x → due n (key p) says next (line (key p) (value p) ++ rest) ≡ next x rest
  due-said n p rest says next e =
      due-line n (key p) (value p) rest says next (key-free p) (says-free t p (value p) (said p)) e

  abbrev from_tol : List Place
  from_tol = Place.tol ∷ Place.space ∷ Place.ref ∷ Place.test ∷ []

  last_lines :
      (n : ℕ) (p : Settings) →
      tol_line n p (text_of value from_tol)
      ≡ Ok
      (record {
        settings = filled p p.l p.c t.settings.tolerance;
        reference = t.reference;
        test = t.test;
      })
  unfolding tol_line space_line ref_line test_line nothing_more
  last_lines n p =
      let read = reading_of (space_of t.reference) in
      due-said n Place.tol _ thousandths_of _ (said Place.tol)
      ∙ due-said (n + 1) Place.space _ space_named _ (said Place.space)
      ∙ due-said (n + 1 + 1) Place.ref _ read _ (of_said (said Place.ref))
      ∙ due-said (n + 1 + 1 + 1) Place.test [] read _ (of_said (said Place.test))

  abbrev first : Settings
  first = blank t.settings.formula t.settings.white

  first_lines :
      (ps : List Place) →
      due 1 (ascii "formula=") formula_named (white_line 2) (text_of value (Place.formula ∷ Place.white ∷ ps))
      ≡ factor_lines 3 first (text_of value ps)
  unfolding white_line
  first_lines ps =
      due-said 1 Place.formula _ formula_named _ (said Place.formula)
      ∙ due-said 2 Place.white (text_of value ps) white_named _ (said Place.white)

  module _ (s : List ℕ) (at_most_lem : length s ≤ 4096) where
    from_first : {r : List ℕ} → s ≡ r → ticket_of s ≡ due 1 (ascii "formula=") formula_named (white_line 2) r
    from_first e = sym (ticket_of_short s at_most_lem) ∙ ap (due 1 (ascii "formula=") formula_named (white_line 2)) e

    read_all : s ≡ text_of value all_places → ticket_of s ≡ Ok t
    unfolding c_line starts_with line
    read_all e =
        let r = text_of value (Place.l ∷ Place.c ∷ from_tol) in
        from_first e ∙ first_lines (Place.l ∷ Place.c ∷ from_tol) ∙ sym (factors_given 3 first r refl refl)
        ∙ due-said 3 Place.l _ thousandths_of _ (said Place.l)
        ∙ due-said 4 Place.c _ thousandths_of _ (said Place.c)
        ∙ last_lines 5 _

    read_short :
        s ≡ text_of value without_l_and_c → t.settings.l ≡ missing_l → t.settings.c ≡ missing_c → ticket_of s ≡ Ok t
    unfolding starts_with line
    read_short e el ec =
        let p = t.settings in
        from_first e ∙ first_lines from_tol ∙ sym (factors_missing 3 first (text_of value from_tol) refl refl)
        ∙ last_lines 3 first
        ∙ (λ i. Ok
        (record {
          settings = filled p (sym el i) (sym ec i) p.tolerance;
          reference = t.reference;
          test = t.test;
        }))

pub consists-read : (s : List ℕ) (t : Ticket) → Consists t s → ticket_of s ≡ Ok t
consists-read s t k =
    ⊎_elim (read_all t k.value k.said s k.at_most_lem)
    (λ e. read_short t k.value k.said s k.at_most_lem e.0 e.1 e.2)
    k.text
