-- What a text's lines are, in other words, and what proofs go by of them. Assumes nothing.
use Rattle.std.specs.Prelude.{ℕ, ◌≡◌, refl, Bool, true, false, cond, ◌≢◌, eqb, None, Some}
use Rattle.std.proofs.Common.{sym, ap, ◌∙◌, eqb-true}
use mathlib.Core.List.{List, [], ◌∷◌, ◌++◌, map, append_assoc, append-nil, cons≢nil}
use Rattle.std.proofs.lemmas.Option.{none-some, same_Some}
use Rattle.text.specs.Ascii.{ascii}
use Rattle.text.specs.Bytes.{has, before, after, starts_with}
use Rattle.text.proofs.Theorems.Bytes.Parts.{free, free-head, parted, free_before, free_of_none, starts_seam}
use Rattle.text.specs.Lines.{Line, ended, unended, is_ended, starts_line, longer, lines_of, nth}
use Rattle.text.specs.Put.{joined}

-- ---- the lines of a text are these, and no others

-- a line as it stands in the text
abbrev pub bytes : Line → List ℕ
bytes (ended s) = s ++ ascii "\n"
bytes (unended s) = s

-- no line has an LF in it; only the last may lack its own, and is not empty then
abbrev pub Proper : List Line → Type 0
Proper [] = Unit
Proper (ended s ∷ ls) = (free 10 s ≡ true) × Proper ls
Proper (unended s ∷ ls) = (free 10 s ≡ true) × (s ≢ []) × (ls ≡ [])

pub record AreLines (s : List ℕ) (ls : List Line) : Type 0 where
  pub whole : s ≡ joined (map bytes ls)
  pub proper : Proper ls

whole_longer : (x : ℕ) (ls : List Line) → joined (map bytes (longer x ls)) ≡ x ∷ joined (map bytes ls)
whole_longer x [] = refl
whole_longer x (ended s ∷ ls) = refl
whole_longer x (unended s ∷ ls) = refl

proper-longer : (x : ℕ) (ls : List Line) → eqb x 10 ≡ false → Proper ls → Proper (longer x ls)
proper-longer x [] h p = (rw h, (λ e. cons≢nil e), refl)
proper-longer x (ended s ∷ ls) h p = (rw h p.0, p.1)
proper-longer x (unended s ∷ ls) h p = (rw h p.0, (λ e. cons≢nil e), p.2)

are_step :
    (x : ℕ) (s : List ℕ) (ls : List Line) (b : Bool) → eqb x 10 ≡ b → AreLines s ls
    → AreLines (x ∷ s) (cond b (ended [] ∷ ls) (longer x ls))
are_step x s ls true h a = record { whole = rw (eqb-true x 10 h, a.whole); proper = (refl, a.proper) }
are_step x s ls false h a =
    record { whole = rw (a.whole, whole_longer x ls); proper = proper-longer x ls h a.proper }

pub lines_are : (s : List ℕ) → AreLines s (lines_of s)
unfolding lines_of
lines_are [] = record { whole = refl; proper = tt }
lines_are (x ∷ s) = are_step x s (lines_of s) (eqb x 10) refl (lines_are s)

-- ---- a text's first line

pub lines_of_ended : (s t : List ℕ) → free 10 s ≡ true → lines_of (s ++ (10 ∷ t)) ≡ ended s ∷ lines_of t
unfolding lines_of
lines_of_ended [] t h = refl
lines_of_ended (x ∷ s) t h =
    let k = free-head (eqb x 10) h in
    rw (k.0, lines_of_ended s t k.1)

-- what has no LF is one line that lacks it, or nothing
abbrev pub last_line : List ℕ → List Line
last_line [] = []
last_line (x ∷ s) = unended (x ∷ s) ∷ []

longer_last : (x : ℕ) (s : List ℕ) → longer x (last_line s) ≡ unended (x ∷ s) ∷ []
longer_last x [] = refl
longer_last x (y ∷ s) = refl

pub lines_of_free : (s : List ℕ) → free 10 s ≡ true → lines_of s ≡ last_line s
unfolding lines_of
lines_of_free [] h = refl
lines_of_free (x ∷ s) h =
    let k = free-head (eqb x 10) h in
    rw (k.0, lines_of_free s k.1) (longer_last x s)

pub lines_unique : (ls : List Line) (s : List ℕ) → AreLines s ls → ls ≡ lines_of s
unfolding lines_of
lines_unique [] s a = sym (ap lines_of a.whole)
lines_unique (ended t ∷ ls) s a =
    let rest = joined (map bytes ls) in
    let text : s ≡ t ++ (10 ∷ rest) = a.whole ∙ append_assoc t (10 ∷ []) rest in
    let others = lines_unique ls rest (record { whole = refl; proper = a.proper.1 }) in
    ap (λ (xs : List Line). ended t ∷ xs) others ∙ sym (ap lines_of text ∙ lines_of_ended t rest a.proper.0)
lines_unique (unended [] ∷ ls) s a = absurd (a.proper.1 refl)
lines_unique (unended (x ∷ t) ∷ ls) s a =
    let u = x ∷ t in
    let last = a.proper.2 in
    let text : s ≡ u = a.whole ∙ ap (λ (xs : List Line). u ++ joined (map bytes xs)) last ∙ append-nil u in
    ap (λ (xs : List Line). unended u ∷ xs) last ∙ sym (ap lines_of text ∙ lines_of_free u a.proper.0)

-- ---- by what stands before and after the first LF

module _ (s : List ℕ) where
  pub lines_of_has : has 10 s ≡ true → lines_of s ≡ ended (before 10 s) ∷ lines_of (after 10 s)
  lines_of_has h = ap lines_of (parted 10 s h) ∙ lines_of_ended (before 10 s) (after 10 s) (free_before 10 s)

  pub lines_of_none : has 10 s ≡ false → lines_of s ≡ last_line s
  lines_of_none h = lines_of_free s (free_of_none 10 s h)

-- the first line starts with a key, which has no LF, where the text does

starts_last : (k : ℕ) (key s : List ℕ) → starts_line (k ∷ key) (nth 1 (last_line s)) ≡ starts_with (k ∷ key) s
unfolding nth starts_with
starts_last k key [] = refl
starts_last k key (x ∷ s) = refl

starts_by :
    (k : ℕ) (key s : List ℕ) (h : Bool) → has 10 s ≡ h → free 10 (k ∷ key) ≡ true
    → starts_line (k ∷ key) (nth 1 (lines_of s)) ≡ starts_with (k ∷ key) s
unfolding nth
starts_by k key s true e f =
    let seam = starts_seam 10 (k ∷ key) (before 10 s) (after 10 s) f in
    rw (lines_of_has s e) (sym seam ∙ ap (starts_with (k ∷ key)) (sym (parted 10 s e)))
starts_by k key s false e f = rw (lines_of_none s e) (starts_last k key s)

pub starts_first :
    (k : ℕ) (key s : List ℕ) → free 10 (k ∷ key) ≡ true
    → starts_line (k ∷ key) (nth 1 (lines_of s)) ≡ starts_with (k ∷ key) s
starts_first k key s f = starts_by k key s (has 10 s) refl f

-- ---- the first line, ended or not

last_unended : (s : List ℕ) {x : Line} → nth 1 (last_line s) ≡ Some x → is_ended x ≡ false
unfolding nth
last_unended [] e = absurd (none-some _ e)
last_unended (y ∷ s) e = sym (ap is_ended (same_Some _ _ e))

module _ (s : List ℕ) where
  pub first_ended : has 10 s ≡ true → nth 1 (lines_of s) ≡ Some (ended (before 10 s))
  unfolding nth
  first_ended h = rw (lines_of_has s h)

  pub first_not_ended : has 10 s ≡ false → {x : Line} → nth 1 (lines_of s) ≡ Some x → is_ended x ≡ false
  first_not_ended h e = last_unended s (sym (ap (λ (xs : List Line). nth 1 xs) (lines_of_none s h)) ∙ e)

some_longer : (x : ℕ) (ls : List Line) (b : Bool) → nth 1 (cond b (ended [] ∷ ls) (longer x ls)) ≡ None → ⊥
unfolding nth
some_longer x ls true e = none-some _ (sym e)
some_longer x [] false e = none-some _ (sym e)
some_longer x (ended s ∷ ls) false e = none-some _ (sym e)
some_longer x (unended s ∷ ls) false e = none-some _ (sym e)

-- a text that is not empty has a line
pub some_line : (x : ℕ) (s : List ℕ) → nth 1 (lines_of (x ∷ s)) ≡ None → ⊥
unfolding lines_of
some_line x s e = some_longer x (lines_of s) (eqb x 10) e
