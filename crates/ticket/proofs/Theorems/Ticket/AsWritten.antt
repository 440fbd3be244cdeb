-- A TICKET WITHOUT THE LINES L AND C is read as the one that has l=2.000 and c=1.000 in their places: as the same
-- ticket (`right_as_written`); or, where its first two lines are right and it has at most 4,096 bytes with the two, as
-- wrong at the same line, whose number is higher by two there (`as_written`). Assumes nothing.
use Rattle.std.specs.Prelude.{ℕ, ◌+◌, ◌≤◌, ◌≡◌, Bool, true, false, cond, ◌&&◌, ◌↔◌, drop, Option, None, Some, Ok, Err}
use Rattle.std.proofs.Math.Path.{refl, sym, ap₂}
use Rattle.std.proofs.Common.{ap, ◌∙◌, arith}
use mathlib.Core.List.{List, [], ◌∷◌, ◌++◌}
use Rattle.std.proofs.Math.ListN.{length, length-append}
use Rattle.text.specs.Ascii.{ascii}
use Rattle.text.specs.Bytes.{has, before, after, starts_with}
use Rattle.text.specs.Names.{formula_name, white_name}
use Rattle.text.specs.Number.{thousandths_of}
use Rattle.text.specs.Put.{line}
use Rattle.colour.specs.declared.white.White.{White}
use Rattle.sheet.specs.declared.formula.Formula.{Formula}
use Rattle.sheet.specs.declared.settings.Settings.{Settings}
use Rattle.ticket.specs.Ticket.{formula_named, white_named, or_wrong, due, nothing_more, test_line, ref_line}
use Rattle.ticket.specs.Ticket.{space_line, tol_line, c_line, factor_lines, blank, white_line, ticket_of}
use Rattle.ticket.specs.Ticket.Grammar.{Place, without_l_and_c, Says, text_of}
use Rattle.ticket.proofs.Theorems.Ticket.Grammar.Free.{named_is}
use Rattle.ticket.proofs.Theorems.Ticket.Grammar.Lengths.{right-few}
use Rattle.ticket.proofs.Theorems.Ticket.Grammar.Read.{due-line}
use Rattle.ticket.proofs.Theorems.Ticket.Grammar.Right.{l_in_digits, c_in_digits}
use Rattle.ticket.proofs.Theorems.Ticket.Grammar.Spelt.{wrong-right, from_tol}
use Rattle.ticket.proofs.Theorems.Ticket.Grammar.Values.{free-formula, free-white}
use Rattle.ticket.specs.Ticket.Laws.{factors_missing, factors_given, ticket_of_short}
use Rattle.ticket.proofs.Theorems.Ticket.Print.Laws.{formula-read, white-read}
use Rattle.ticket.specs.declared.lines.Ticket.{Ticket}
use Rattle.ticket.specs.Ticket.{Parsed, wrong_line}

-- ---- the two texts, r being the text from the line tol on

abbrev pub without : Formula → White → (r : List ℕ) → List ℕ
without f w r = line (ascii "formula=") (formula_name f) ++ (line (ascii "white=") (white_name w) ++ r)

abbrev pub l_and_c : (r : List ℕ) → List ℕ
l_and_c r = line (ascii "l=") (ascii "2.000") ++ (line (ascii "c=") (ascii "1.000") ++ r)

abbrev pub written : Formula → White → (r : List ℕ) → List ℕ
written f w r = without f w (l_and_c r)

-- the number of a wrong line, higher by two
abbrev pub two_more : Parsed → Parsed
two_more (Ok t) = Ok t
two_more (Err e) = wrong_line (e.0 + 2)

right_of_two_more : (p : Parsed) {t : Ticket} → two_more p ≡ Ok t → p ≡ Ok t
right_of_two_more (Ok u) e = e
right_of_two_more (Err w) e = absurd (wrong-right e)

-- ---- the lines from tol on, counted from 5 and from 3

due_two_more :
    {A : Type 0} (m n : ℕ) (key : List ℕ) (value : List ℕ → Option A) (later sooner : A → List ℕ → Parsed)
    → m ≡ n + 2 → ((x : A) (s : List ℕ) → later x s ≡ two_more (sooner x s))
    → (s : List ℕ) → due m key value later s ≡ two_more (due n key value sooner s)
unfolding due
due_two_more m n key value later sooner e h s =
    go (has 10 s && starts_with key (before 10 s)) (value (drop (length key) (before 10 s)))
  where
    go : (b : Bool) (o : Option _) →
        cond b (or_wrong m o (λ x. later x (after 10 s))) (wrong_line m)
        ≡ two_more (cond b (or_wrong n o (λ x. sooner x (after 10 s))) (wrong_line n))
    go false o = ap wrong_line e
    go true None = ap wrong_line e
    go true (Some x) = h x (after 10 s)

more_two_more : (t : Ticket) (s : List ℕ) → nothing_more 9 t s ≡ two_more (nothing_more 7 t s)
unfolding nothing_more
more_two_more t [] = refl
more_two_more t (x ∷ s) = refl

tol_two_more : (p : Settings) (s : List ℕ) → tol_line 5 p s ≡ two_more (tol_line 3 p s)
unfolding tol_line space_line ref_line test_line
tol_two_more p =
    due_two_more 5 3 _ _ _ _ refl (λ x.
    due_two_more 6 4 _ _ _ _ refl (λ space.
    due_two_more 7 5 _ _ _ _ refl (λ reference.
    due_two_more 8 6 _ _ _ _ refl (λ test. more_two_more _))))

-- ---- the whole texts

module _ (f : Formula) (w : White) (r : List ℕ) where
  first_two : (u : List ℕ) → length (without f w u) ≤ 4096 → ticket_of (without f w u) ≡ factor_lines 3 (blank f w) u
  unfolding white_line
  first_two u short =
      sym (ticket_of_short (without f w u) short)
      ∙ due-line 1 (ascii "formula=") (formula_name f) _ formula_named _ refl (free-formula f) (formula-read f)
      ∙ due-line 2 (ascii "white=") (white_name w) u white_named _ refl (free-white w) (white-read w)

  factors_written : factor_lines 3 (blank f w) (l_and_c r) ≡ tol_line 5 (blank f w) r
  unfolding c_line starts_with line
  factors_written =
      sym (factors_given 3 (blank f w) (l_and_c r) refl refl)
      ∙ due-line 3 (ascii "l=") _ _ thousandths_of _ refl refl l_in_digits
      ∙ due-line 4 (ascii "c=") _ r thousandths_of _ refl refl c_in_digits

  pub as_written :
      starts_with (ascii "tol=") r ≡ true → length (written f w r) ≤ 4096
      → ticket_of (written f w r) ≡ two_more (ticket_of (without f w r))
  as_written tol short =
      let fewer : length (without f w r) ≤ length (written f w r) = simp length-append (omega arith) in
      first_two _ short ∙ factors_written ∙ tol_two_more (blank f w) r
      ∙ ap two_more (factors_missing 3 (blank f w) r refl tol ∙ sym (first_two r (omega arith)))

  -- a right ticket is short, so no length is asked for
  pub right_as_written :
      starts_with (ascii "tol=") r ≡ true → {t : Ticket}
      → (ticket_of (without f w r) ≡ Ok t) ↔ (ticket_of (written f w r) ≡ Ok t)
  unfolding line
  right_as_written tol {t} = (there, back)
    where
      more : length (written f w r) ≡ length (without f w r) + 16
      more = simp length-append (omega arith)

      there : ticket_of (without f w r) ≡ Ok t → ticket_of (written f w r) ≡ Ok t
      there e = as_written tol (omega (arith, more, right-few (without f w r) e)) ∙ ap two_more e

      back : ticket_of (written f w r) ≡ Ok t → ticket_of (without f w r) ≡ Ok t
      back e = right_of_two_more _ (sym (as_written tol (omega (arith, right-few (written f w r) e))) ∙ e)

-- ---- every right ticket without the two lines is such a text

pub record Short (t : Ticket) (s : List ℕ) : Type 0 where
  pub rest : List ℕ
  pub text : s ≡ without t.settings.formula t.settings.white rest
  pub tol : starts_with (ascii "tol=") rest ≡ true

module _ (t : Ticket) (value : Place → List ℕ) (said : (p : Place) → Says t p (value p)) where
  pub short_is : Short t (text_of value without_l_and_c)
  unfolding starts_with line
  short_is =
      let rest = text_of value from_tol in
      record {
        rest = rest;
        text =
            ap₂ (λ (u v : List ℕ). line (ascii "formula=") u ++ (line (ascii "white=") v ++ rest))
            (named_is formula_name _ _ (said Place.formula)) (named_is white_name _ _ (said Place.white));
        tol = refl;
      }
