-- THE TICKET: `ticket_of` finds a ticket exactly where the text consists of that ticket's lines. Assumes nothing.
use Rattle.std.specs.Prelude.{ℕ, ◌≤◌, ◌≡◌, refl, Bool, cond, ◌↔◌, ltb, length, Some, Ok}
use Rattle.std.proofs.Common.{sym, ◌∙◌, ltb-false}
use Rattle.std.proofs.Math.Path.{ap}
use Rattle.std.proofs.Math.Bool.{true, false}
use mathlib.Core.List.{List, [], ◌∷◌, ◌++◌}
use Rattle.std.proofs.Math.Logic.{inl, inr}
use Rattle.text.specs.Ascii.{ascii}
use Rattle.text.specs.Bytes.{index_of, before, after, starts_with}
use Rattle.text.specs.Number.{numeral, digits_of, fraction_of, decimal_of, thousandths_of}
use Rattle.text.specs.Put.{joined, line}
use Rattle.colour.specs.declared.white.White.{White}
use Rattle.sheet.specs.declared.formula.Formula.{Formula}
use Rattle.ticket.specs.Ticket.{formula_named, white_named, due, tol_line, c_line, filled, factor_lines, blank}
use Rattle.ticket.specs.Ticket.{missing_l, missing_c, white_line, ticket_of, wrong_line}
use Rattle.ticket.specs.Ticket.Grammar.{Place, key, Says, text_of, Consists}
use Rattle.ticket.proofs.Theorems.Ticket.Grammar.Read.{consists-read}
use Rattle.ticket.proofs.Theorems.Ticket.Grammar.Spelt.{wrong-right, read, Spelt, from_tol, tol_spelt}
use Rattle.ticket.specs.declared.lines.Ticket.{Ticket}

-- ---- l and c where they are missing, as their lines would say them

pub l_in_digits : thousandths_of (ascii "2.000") ≡ Some missing_l
unfolding decimal_of digits_of fraction_of numeral before after index_of
l_in_digits = refl

pub c_in_digits : thousandths_of (ascii "1.000") ≡ Some missing_c
unfolding decimal_of digits_of fraction_of numeral before after index_of
c_in_digits = refl

-- ---- such lines are a text of the grammar

module _ (t : Ticket) where
  spelt_lines : (ps : List Place) (r : List ℕ) → Spelt t ps r → List (List ℕ)
  spelt_lines [] r k = []
  spelt_lines (p ∷ ps) r k = line (key p) k.0 ∷ spelt_lines ps k.1 k.4

  spelt_text : (ps : List Place) (r : List ℕ) (k : Spelt t ps r) → r ≡ joined (spelt_lines ps r k)
  unfolding spelt_lines
  spelt_text [] r k = k
  spelt_text (p ∷ ps) r k = k.2 ∙ ap (λ (u : List ℕ). line (key p) k.0 ++ u) (spelt_text ps k.1 k.4)

  module _ (f w l c r : List ℕ) (k : Spelt t from_tol r) where
    values : Place → List ℕ
    values Place.formula = f
    values Place.white = w
    values Place.l = l
    values Place.c = c
    values Place.tol = k.0
    values Place.space = k.4.0
    values Place.ref = k.4.4.0
    values Place.test = k.4.4.4.0

    all_said :
        Says t Place.formula f → Says t Place.white w → Says t Place.l l → Says t Place.c c
        → (p : Place) → Says t p (values p)
    unfolding values
    all_said hf hw hl hc Place.formula = hf
    all_said hf hw hl hc Place.white = hw
    all_said hf hw hl hc Place.l = hl
    all_said hf hw hl hc Place.c = hc
    all_said hf hw hl hc Place.tol = k.3
    all_said hf hw hl hc Place.space = k.4.3
    all_said hf hw hl hc Place.ref = k.4.4.3
    all_said hf hw hl hc Place.test = k.4.4.4.3

    last_text : r ≡ text_of values from_tol
    unfolding values spelt_lines
    last_text = spelt_text from_tol r k

  -- ---- the whole text

  module _ (s f w r : List ℕ) (x : Formula) (y : White) (at_most_lem : length s ≤ 4096) where
    abbrev first_two : List ℕ → List ℕ
    first_two u = line (key Place.formula) f ++ (line (key Place.white) w ++ u)

    factors_spelt :
        s ≡ first_two r → formula_named f ≡ Some x → white_named w ≡ Some y → (b : Bool)
        → cond b (tol_line 3 (blank x y) r)
        (due 3 (key Place.l) thousandths_of (λ n. c_line 4 (filled (blank x y) n missing_c 0)) r)
        ≡ Ok t → Consists t s
    unfolding c_line values
    factors_spelt e hf hw true g =
        let k = tol_spelt t 3 (blank x y) r g in
        let l = ascii "2.000" in
        let c = ascii "1.000" in
        let said =
        all_said f w l c r k.1 (hf ∙ ap Some (sym k.0.formula)) (hw ∙ ap Some (sym k.0.white))
        (l_in_digits ∙ ap Some (sym k.0.l)) (c_in_digits ∙ ap Some (sym k.0.c)) in
        record {
          value = values f w l c r k.1;
          said = said;
          text = inr (e ∙ ap first_two (last_text f w l c r k.1), k.0.l, k.0.c);
          at_most_lem = at_most_lem;
        }
    factors_spelt e hf hw false g =
        let a = read 3 Place.l thousandths_of _ r g in
        let b = read 4 Place.c thousandths_of _ a.rest a.after-it in
        let k = tol_spelt t 5 (filled (blank x y) a.what b.what 0) b.rest b.after-it in
        let said =
        all_said f w a.said b.said b.rest k.1 (hf ∙ ap Some (sym k.0.formula))
        (hw ∙ ap Some (sym k.0.white)) (a.says ∙ ap Some (sym k.0.l)) (b.says ∙ ap Some (sym k.0.c)) in
        let from-tol = last_text f w a.said b.said b.rest k.1 in
        let from-c = b.text ∙ ap (λ (u : List ℕ). line (key Place.c) b.said ++ u) from-tol in
        let from-l = a.text ∙ ap (λ (u : List ℕ). line (key Place.l) a.said ++ u) from-c in
        record {
          value = values f w a.said b.said b.rest k.1;
          said = said;
          text = inl (e ∙ ap first_two from-l);
          at_most_lem = at_most_lem;
        }

  whole_by :
      (s : List ℕ) (b : Bool) → ltb 4096 (length s) ≡ b
      → cond b (wrong_line 0) (due 1 (key Place.formula) formula_named (white_line 2) s) ≡ Ok t → Consists t s
  unfolding white_line factor_lines
  whole_by s true eb e = absurd (wrong-right e)
  whole_by s false eb e =
      let a = read 1 Place.formula formula_named _ s e in
      let b = read 2 Place.white white_named _ a.rest a.after-it in
      let text = a.text ∙ ap (λ (u : List ℕ). line (key Place.formula) a.said ++ u) b.text in
      factors_spelt s a.said b.said b.rest a.what b.what (ltb-false 4096 (length s) eb)
      text a.says b.says (starts_with (ascii "tol=") b.rest) b.after-it

read-consists : (s : List ℕ) (t : Ticket) → ticket_of s ≡ Ok t → Consists t s
unfolding ticket_of
read-consists s t e = whole_by t s (ltb 4096 (length s)) refl e

pub right_exactly : (s : List ℕ) (t : Ticket) → (ticket_of s ≡ Ok t) ↔ Consists t s
right_exactly s t = (read-consists s t, consists-read s t)
