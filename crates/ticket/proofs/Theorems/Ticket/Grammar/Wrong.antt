-- THE FIRST WRONG LINE: `ticket_of` is wrong at line n exactly where the grammar has the text wrong at line n.
-- Assumes nothing.
use Prim.Native.Nat.{ℕ, suc, ◌+◌, ◌≤◌, ◌<◌}
use Rattle.std.specs.Prelude.{◌≡◌, Bool, cond, ◌↔◌, ltb, length, Ok, Err}
use Rattle.std.proofs.Math.Path.{refl, ap}
use Rattle.std.proofs.Common.{sym, subst, ◌∙◌, ltb-true, ltb-false}
use Rattle.std.proofs.Math.Bool.{true, false}
use mathlib.Core.List.{List, [], ◌∷◌}
use native.Mathlib.Omega.{arith}
use Rattle.std.proofs.Math.Decide.{dec_lt}
use Rattle.text.specs.Ascii.{ascii}
use Rattle.text.specs.Bytes.{starts_with}
use Rattle.text.specs.Lines.{lines_of, nth, starts_line}
use Rattle.text.proofs.Theorems.Lines.Laws.{starts_first}
use Rattle.text.specs.Number.{thousandths_of}
use Rattle.sheet.specs.declared.settings.Settings.{Settings}
use Rattle.ticket.specs.Ticket.{formula_named, white_named, space_named, reading_of, due, test_line, ref_line}
use Rattle.ticket.specs.Ticket.{space_line, filled, tol_line, c_line, factor_lines, white_line, ticket_of}
use Rattle.ticket.specs.Ticket.Grammar.{Place, key, all_places, without_l_and_c, form_of}
use Rattle.ticket.specs.Ticket.Grammar.{RightAt, WrongAt, too_long, first_wrong}
use Rattle.ticket.proofs.Theorems.Ticket.Grammar.Steps.{Due, Good, nth_at, line-here, step, end_good}
use Rattle.ticket.proofs.Theorems.Ticket.Grammar.Tells.{tells_formula, tells_white, tells_l, tells_c, tells_tol}
use Rattle.ticket.proofs.Theorems.Ticket.Grammar.Tells.{tells_space, tells_ref, tells_test}
use Rattle.ticket.specs.Ticket.Laws.{ticket_of_long}
use Rattle.ticket.specs.declared.lines.Ticket.{Ticket}
use Rattle.ticket.specs.Ticket.{Parsed, wrong_line}

-- ---- the lines in their order

-- from tol= on, and from line 3 on in either form
abbrev from_tol : List Place
from_tol = Place.tol ∷ Place.space ∷ Place.ref ∷ Place.test ∷ []

abbrev from_third : Bool → List Place
from_third true = from_tol
from_third false = Place.l ∷ Place.c ∷ from_tol

form_is : (b : Bool) → cond b without_l_and_c all_places ≡ Place.formula ∷ Place.white ∷ from_third b
form_is true = refl
form_is false = refl

module _ (s : List ℕ) (short : length s ≤ 4096) where
  tol-good : (n : ℕ) (p : Settings) (r : List ℕ) → Due s n from_tol r → Good s (tol_line n p r)
  unfolding tol_line space_line ref_line test_line
  tol-good n p r d =
      step s short n Place.tol _ r d thousandths_of tells_tol _ (λ x d.
      step s short (n + 1) Place.space _ _ d space_named tells_space _ (λ q d.
      step s short (n + 1 + 1) Place.ref _ _ d (reading_of q) (tells_ref q) _ (λ u d.
      step s short (n + 1 + 1 + 1) Place.test _ _ d (reading_of q) (tells_test q) _ (λ v d.
      end_good s short (n + 1 + 1 + 1 + 1) _ _ d))))

  abbrev is_short : Bool
  is_short = starts_line (key Place.tol) (nth 3 (lines_of s))

  factors_by :
      (p : Settings) (r : List ℕ) (b : Bool) → Due s 3 (from_third b) r
      → Good s
      (cond b (tol_line 3 p r)
      (due 3 (ascii "l=") thousandths_of (λ x. c_line 4 (filled p x p.c p.tolerance)) r))
  unfolding c_line
  factors_by p r true d = tol-good 3 p r d
  factors_by p r false d =
      step s short 3 Place.l _ r d thousandths_of tells_l _ (λ x d.
      step s short 4 Place.c _ _ d thousandths_of tells_c _ (λ y d. tol-good 5 _ _ d))

  factors_good : (p : Settings) (r : List ℕ) → Due s 3 (from_third is_short) r → Good s (factor_lines 3 p r)
  unfolding factor_lines
  factors_good p r d =
      let third = ap (starts_line (key Place.tol)) (line-here s short 3 (from_third is_short) r d) in
      let e : is_short ≡ starts_with (ascii "tol=") r = third ∙ starts_first 116 (ascii "ol=") r refl in
      factors_by p r (starts_with (ascii "tol=") r) (subst (λ (b : Bool). Due s 3 (from_third b) r) e d)

  due_first : Due s 1 (Place.formula ∷ Place.white ∷ from_third is_short) s
  unfolding form_of
  due_first =
      let move : (k : ℕ) → 1 + k ≡ suc k = λ k. omega arith in
      record {
        counted = omega arith;
        places = λ k. nth_at (form_of s) (move k) ∙ ap (λ (ps : List Place). nth (suc k) ps) (form_is is_short);
        lines = λ k. nth_at (lines_of s) (move k);
        right = λ m pos lt. absurd (omega arith);
      }

  lines-good : Good s (due 1 (ascii "formula=") formula_named (white_line 2) s)
  unfolding white_line
  lines-good =
      step s short 1 Place.formula _ s due_first formula_named tells_formula _ (λ f d.
      step s short 2 Place.white _ _ d white_named tells_white _ (λ w d. factors_good _ _ d))

-- ---- the whole text

module _ (s : List ℕ) where
  good_by :
      (b : Bool) → ltb 4096 (length s) ≡ b
      → Good s (cond b (wrong_line 0) (due 1 (ascii "formula=") formula_named (white_line 2) s))
  good_by true e = too_long refl (ltb-true 4096 (length s) e)
  good_by false e = lines-good s (ltb-false 4096 (length s) e)

  good : Good s (ticket_of s)
  unfolding ticket_of
  good = good_by (ltb 4096 (length s)) refl

  -- where a ticket is found every line is right, and nothing follows the last
  pub right-lines : {t : Ticket} → ticket_of s ≡ Ok t → (n : ℕ) → 0 < n → RightAt n s
  right-lines e = subst (Good s) e good

  only-wrong : {m n : ℕ} → WrongAt m s → WrongAt n s → m ≡ n
  only-wrong (too_long e h) (too_long f k) = e ∙ sym f
  only-wrong (too_long e h) (first_wrong pos k right wrong) = absurd (omega arith)
  only-wrong (first_wrong pos k right wrong) (too_long e h) = absurd (omega arith)
  only-wrong {m} {n} (first_wrong pos k right wrong) (first_wrong pos' k' right' wrong') = go (dec_lt m n) (dec_lt n m)
    where
      go : Dec (m < n) → Dec (n < m) → m ≡ n
      go (yes lt) q = absurd (wrong (right' m pos lt))
      go (no ge) (yes lt) = absurd (wrong' (right n pos' lt))
      go (no ge) (no le) = omega arith

  wrong_by : {n : ℕ} (p : Parsed) → ticket_of s ≡ p → WrongAt n s → p ≡ wrong_line n
  wrong_by (Ok t) e (too_long f k) = absurd (let z : ◌≡◌ {A = ℕ} 0 1 = cc (ticket_of_long s k) in omega arith)
  wrong_by (Ok t) e (first_wrong pos k right wrong) = absurd (wrong (right-lines e _ pos))
  wrong_by (Err m) e w = ap wrong_line (only-wrong (subst (Good s) e good) w)

  pub wrong_exactly : (n : ℕ) → (ticket_of s ≡ wrong_line n) ↔ WrongAt n s
  wrong_exactly n = (λ e. subst (Good s) e good, λ w. wrong_by (ticket_of s) refl w)
