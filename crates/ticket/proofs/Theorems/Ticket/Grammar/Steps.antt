-- One line of a text after the other: where `due` has it wrong the grammar has too; after a right one the next is due.
-- Assumes nothing.
use Prim.Native.Nat.{ℕ, suc, ◌+◌, ◌-◌, ◌≤◌, ◌<◌}
use Rattle.std.specs.Prelude.{◌≡◌, Bool, true, false, cond, ◌&&◌, length, drop, Option, None, Some, Ok, Err}
use Rattle.std.proofs.Math.Path.{refl, ap}
use Rattle.std.proofs.Common.{sym, subst, ◌∙◌, add-zero}
use Rattle.std.proofs.lemmas.Bool.{false≢true}
use mathlib.Core.List.{List, [], ◌∷◌, ◌++◌}
use Rattle.std.proofs.lemmas.Option.{none-some, same_Some}
use Rattle.std.proofs.Math.Seq.{drop-append_seam}
use native.Mathlib.Omega.{arith}
use Rattle.std.proofs.Math.Decide.{dec_lt}
use Rattle.text.specs.Bytes.{has, before, after, starts_with}
use Rattle.text.proofs.Theorems.Bytes.Parts.{starts-append, starts_is}
use Rattle.text.specs.Lines.{Line, content, lines_of, nth}
use Rattle.text.proofs.Theorems.Lines.Laws.{lines_of_has, first_ended, first_not_ended, some_line}
use Rattle.ticket.specs.Ticket.{or_wrong, due, nothing_more, Parsed, wrong_line}
use Rattle.ticket.specs.Ticket.Grammar.{Place, key, form_of, RightFor, WrongAt, first_wrong}
use Rattle.ticket.specs.Ticket.Grammar.{RightAt, right-line, nothing_follows, RightBefore}
use Rattle.ticket.proofs.Theorems.Ticket.Grammar.Tells.{Tells}
use Rattle.ticket.specs.declared.lines.Ticket.{Ticket}

-- reading has come to line n: ps are its place and those after it, and r is the text from there on
pub record Due (s : List ℕ) (n : ℕ) (ps : List Place) (r : List ℕ) : Type 0 where
  pub counted : 0 < n
  pub places : (k : ℕ) → nth (n + k) (form_of s) ≡ nth (suc k) ps
  pub lines : (k : ℕ) → nth (n + k) (lines_of s) ≡ nth (suc k) (lines_of r)
  pub right : RightBefore n s

-- an answer that is the grammar's too
abbrev pub Good : List ℕ → Parsed → Type 0
Good s (Ok t) = (m : ℕ) → 0 < m → RightAt m s
Good s (Err e) = WrongAt e.0 s

abbrev inside : Option Line → List ℕ
inside None = []
inside (Some x) = content x

pub nth_at : {A : Type 0} (xs : List A) {j k : ℕ} → j ≡ k → nth j xs ≡ nth k xs
nth_at xs e = ap (λ (i : ℕ). nth i xs) e

module _ (s : List ℕ) (short : length s ≤ 4096) where
  pub line-here : (n : ℕ) (ps : List Place) (r : List ℕ) → Due s n ps r → nth n (lines_of s) ≡ nth 1 (lines_of r)
  line-here n ps r d = nth_at (lines_of s) (sym (add-zero n)) ∙ d.lines 0

  -- ---- a place's line

  module _ (n : ℕ) (p : Place) (ps : List Place) (r : List ℕ) (d : Due s n (p ∷ ps) r) where
    place_here : nth n (form_of s) ≡ Some p
    unfolding nth
    place_here = nth_at (form_of s) (sym (add-zero n)) ∙ d.places 0

    not_right : ((x : Line) → nth 1 (lines_of r) ≡ Some x → RightFor p x → ⊥) → RightAt n s → ⊥
    not_right h (right-line {p = q} {x = x} e g k) =
        let same = same_Some q p (sym e ∙ place_here) in
        h x (sym (line-here n (p ∷ ps) r d) ∙ g) (subst (λ (u : Place). RightFor u x) same k)
    not_right h (nothing_follows e g) = none-some _ (sym e ∙ place_here)

    wrong-here : ((x : Line) → nth 1 (lines_of r) ≡ Some x → RightFor p x → ⊥) → WrongAt n s
    wrong-here h = first_wrong d.counted short d.right (not_right h)

    up_to : RightAt n s → RightBefore (n + 1) s
    up_to h m pos k = go (dec_lt m n)
      where
        go : Dec (m < n) → RightAt m s
        go (yes lt) = d.right m pos lt
        go (no ge) = subst (λ (j : ℕ). RightAt j s) (omega arith) h

    due-next : has 10 r ≡ true → RightAt n s → Due s (n + 1) ps (after 10 r)
    unfolding nth
    due-next h right =
        let move : (k : ℕ) → n + 1 + k ≡ n + suc k = λ k. omega arith in
        let later : (k : ℕ) → nth (suc (suc k)) (lines_of r) ≡ nth (suc k) (lines_of (after 10 r)) =
        λ k. ap (λ (xs : List Line). nth (suc (suc k)) xs) (lines_of_has r h) in
        record {
          counted = omega arith;
          places = λ k. nth_at (form_of s) (move k) ∙ d.places (suc k);
          lines = λ k. nth_at (lines_of s) (move k) ∙ d.lines (suc k) ∙ later k;
          right = up_to right;
        }

    line_is :
        has 10 r ≡ true → {x : Line} → nth 1 (lines_of r) ≡ Some x → (f : RightFor p x) → before 10 r ≡ key p ++ f.value
    line_is h e f = ap inside (sym (first_ended r h) ∙ e) ∙ f.whole

    abbrev v : List ℕ
    v = drop (length (key p)) (before 10 r)

    value_is :
        has 10 r ≡ true → {x : Line} → nth 1 (lines_of r) ≡ Some x → (f : RightFor p x) → v ≡ f.value
    value_is h e f = ap (drop (length (key p))) (line_is h e f) ∙ drop-append_seam (key p) f.value

    module _ {A : Type 0} (value : List ℕ → Option A) (tells : Tells p value) (next : A → List ℕ → Parsed) where
      right-here :
          has 10 r ≡ true → starts_with (key p) (before 10 r) ≡ true → {x : A} → value v ≡ Some x → RightAt n s
      right-here h ek {x} eo =
          let t = tells.some_ticket v x eo in
          let whole = starts_is (key p) (before 10 r) ek in
          right-line place_here (line-here n (p ∷ ps) r d ∙ first_ended r h)
          (record { value = v; ends = refl; whole = whole; ticket = t.0; said = t.1 })

      by_tests :
          ((x : A) → Due s (n + 1) ps (after 10 r) → Good s (next x (after 10 r)))
          → (h : Bool) → has 10 r ≡ h → (k : Bool) → starts_with (key p) (before 10 r) ≡ k → (o : Option A) → value v ≡ o
          → Good s (cond (h && k) (or_wrong n o (λ x. next x (after 10 r))) (wrong_line n))
      by_tests go false h k ek o eo = wrong-here (λ x e f. false≢true (sym (first_not_ended r h e) ∙ f.ends))
      by_tests go true h false ek o eo =
          wrong-here (λ x e f.
          false≢true (sym ek ∙ ap (starts_with (key p)) (line_is h e f) ∙ starts-append (key p) f.value))
      by_tests go true h true ek None eo =
          wrong-here (λ x e f.
          tells.no_ticket f.value (sym (ap value (value_is h e f)) ∙ eo) f.ticket f.said)
      by_tests go true h true ek (Some x) eo = go x (due-next h (right-here h ek eo))

      pub step :
          ((x : A) → Due s (n + 1) ps (after 10 r) → Good s (next x (after 10 r))) → Good s (due n (key p) value next r)
      unfolding due
      step go = by_tests go (has 10 r) refl (starts_with (key p) (before 10 r)) refl (value v) refl

  -- ---- after the last place

  module _ (n : ℕ) (t : Ticket) where
    from_end : Due s n [] [] → (m : ℕ) → 0 < m → RightAt m s
    unfolding nth lines_of
    from_end d m pos = go (dec_lt m n)
      where
        beyond : (k : ℕ) → m ≡ n + k → RightAt m s
        beyond k e = nothing_follows (nth_at (form_of s) e ∙ d.places k) (nth_at (lines_of s) e ∙ d.lines k)

        go : Dec (m < n) → RightAt m s
        go (yes lt) = d.right m pos lt
        go (no ge) = beyond (m - n) (omega arith)

    more_not_right : (x : ℕ) (r : List ℕ) → Due s n [] (x ∷ r) → RightAt n s → ⊥
    unfolding nth
    more_not_right x r d (right-line e g k) =
        none-some _ (sym (nth_at (form_of s) (sym (add-zero n)) ∙ d.places 0) ∙ e)
    more_not_right x r d (nothing_follows e g) = some_line x r (sym (line-here n [] (x ∷ r) d) ∙ g)

    pub end_good : (r : List ℕ) → Due s n [] r → Good s (nothing_more n t r)
    unfolding nothing_more
    end_good [] d = from_end d
    end_good (x ∷ r) d = first_wrong d.counted short d.right (more_not_right x r d)
