-- What callers go by of the lines of Ticket.antt. Assumes nothing.
use Rattle.std.specs.Prelude.{ℕ, ◌-◌, ◌+◌, ◌≤◌, ◌<◌, ◌≡◌, refl, Bool, true, false, cond, ◌&&◌, List, [], ◌∷◌, length, take, drop, Option, None, Some, ok_or, Result, Ok, Err, IsErr, IsErrAnd, MatchResult}
use Rattle.std.proofs.Math.Path.{sym, ap}
use Rattle.std.proofs.Common.{◌∙◌, arith}
use borrow.Author.Tests.{lt-ltb, le-ltb}
use Rattle.text.specs.Ascii.{ascii}
use Rattle.reading.specs.declared.decimal.Decimal.{Decimal}
use Rattle.colour.specs.declared.placed.Values.TheVariants.{Xyz as Written-as-Xyz, Lab as Written-as-Lab}
use Rattle.sheet.specs.declared.settings.Settings.{Settings}
use Rattle.colour.specs.declared.placed.Space.{Space}
use Rattle.colour.specs.declared.placed.Space.TheVariants.{Xyz, Lab}
use Rattle.ticket.specs.declared.lines.Ticket.{Ticket}
use Rattle.ticket.specs.declared.lines.WrongLine.{WrongLine}
use Rattle.text.specs.Bytes.{index_of, has, before, after, starts_with, same_bytes}
use Rattle.text.specs.Bytes.Laws.{Found, drop_is}
use Rattle.text.specs.Number.{digits_of, decimal_of, thousandths_of, signed_of}
use Rattle.ticket.specs.Ticket.{named, formula_named, white_named, space_named, three, reading_of, or_wrong}
use Rattle.colour.specs.Placed.{in_space}
use Rattle.ticket.specs.Ticket.{Parsed, wrong_line, due, nothing_more, tol_line, c_line, filled, factor_lines, blank, white_line, ticket_of}

-- what was read of the lines that `whole` speaks of is what it goes on with, or their first wrong line is its own
abbrev pub GoesOn : {A : Type 0} → (whole : Parsed) → Result A WrongLine → (next : A → Parsed) → Type 0
GoesOn whole r next = MatchResult r (λ x. whole ≡ next x) (λ e. whole ≡ Err e)

-- ---- the line that is due

-- the first line of all, and what follows
abbrev pub formula_line : ℕ → List ℕ → Parsed
formula_line n = due n (ascii "formula=") formula_named (white_line (n + 1))

-- ---- the lines up to tol, whatever comes next

-- by the number of its first line, the settings so far and the text
abbrev pub Next : Type 0
Next = ℕ → Settings → List ℕ → Parsed

-- l and c, or neither
abbrev pub factors_then : Next → Next
factors_then next n p s =
    cond (starts_with (ascii "tol=") s) (next n p s)
    (due n (ascii "l=") thousandths_of
    (λ l. due (n + 1) (ascii "c=") thousandths_of (λ c. next (n + 1 + 1) (filled p l c p.tolerance))) s)

abbrev pub tol_then : Next → Next
tol_then next n p = due n (ascii "tol=") thousandths_of (λ x. next (n + 1) (filled p p.l p.c x))

abbrev pub settings_then : Next → ℕ → List ℕ → Parsed
settings_then next n =
    due n (ascii "formula=") formula_named
    (λ f. due (n + 1) (ascii "white=") white_named (λ w. factors_then (tol_then next) (n + 1 + 1) (blank f w)))

-- the value of the first line, if it has the key and its LF
unfoldable pub value_of : (key s : List ℕ) → List ℕ
value_of key s = cond (has 10 s && starts_with key (before 10 s)) (drop (length key) (before 10 s)) []

module _ (key s : List ℕ) {i : ℕ} (f : Found 10 s i) where
  pub value_nil_of_no_line : length s ≤ i → ◌≡◌ {A = List ℕ} [] (value_of key s)
  unfolding value_of
  value_nil_of_no_line h = rw (← f.first, le-ltb _ _ h)

  module _ (h : i < length s) {l : List ℕ} (el : l ≡ before 10 s) where
    pub value_nil_of_key : starts_with key l ≡ false → ◌≡◌ {A = List ℕ} [] (value_of key s)
    unfolding value_of
    value_nil_of_key e = rw (← f.first, lt-ltb _ _ h, ← el, e)

    pub key_dropped : starts_with key l ≡ true → drop (length key) l ≡ value_of key s
    unfolding value_of
    key_dropped e = rw (← f.first, lt-ltb _ _ h, ← el, e)

    pub drop_key_value : starts_with key l ≡ true → take (length l - length key) (drop (length key) l) ≡ value_of key s
    drop_key_value e = drop_is l (length key) ∙ key_dropped e

-- ---- a line that is due, by what the code has of it: its value v, and the rest t of the text

due-cond :
    (b : Bool) {A : Type 0} (n : ℕ) (value : List ℕ → Option A) (next : A → Parsed) (l : List ℕ) → value [] ≡ None
    → cond b (or_wrong n (value l) next) (wrong_line n) ≡ or_wrong n (value (cond b l [])) next
due-cond true n value next l e = refl
due-cond false n value next l e = rw e

wrong_of :
    {A : Type 0} (o : Option A) (next : A → Parsed) {n : ℕ} {w x : WrongLine} {r : Result A WrongLine} → w.0 ≡ n →
    r ≡ ok_or o w → r ≡ Err x → or_wrong n o next ≡ Err x
wrong_of None next {w = w} {x = x} ew er h =
    let same : w ≡ x = cc in
    sym (ap wrong_line ew) ∙ ap Err same
wrong_of (Some y) next ew er h = absurd (let z : ◌≡◌ {A = ℕ} 0 1 = cc in omega arith)

right_of :
    {A : Type 0} (n : ℕ) (w : WrongLine) (o : Option A) (next : A → Parsed) {x : A} {r : Result A WrongLine} →
    r ≡ ok_or o w → r ≡ Ok x → or_wrong n o next ≡ next x
right_of n w None next er h = absurd (let z : ◌≡◌ {A = ℕ} 0 1 = cc in omega arith)
right_of n w (Some y) next {x = x} er h =
    let same : y ≡ x = cc in
    ap next same

module _
    {A : Type 0} (n : ℕ) (key : List ℕ) (value : List ℕ → Option A) (next : A → List ℕ → Parsed) (s : List ℕ)
    (e : value [] ≡ None) {v : List ℕ} (ev : v ≡ value_of key s) where
  due_value : due n key value next s ≡ or_wrong n (value v) (λ x. next x (after 10 s))
  unfolding due value_of
  due_value =
      let first = before 10 s in
      due-cond (has 10 s && starts_with key first) n value (λ x. next x (after 10 s)) (drop (length key) first) e ∙ rw ev

  -- wrong, or what the next line makes of x and t
  pub due-read :
      {o p : Option A} → o ≡ value v → o ≡ p → {t : List ℕ} → t ≡ after 10 s → {q : Parsed}
      → q ≡ or_wrong n p (λ x. next x t) → q ≡ due n key value next s
  due-read eo ep et eq = eq ∙ sym (due_value ∙ rw (← eo, ep, ← et))

  -- what the value says, or the line is wrong
  module _ {o : Option A} (eo : o ≡ value v) {w : WrongLine} (ew : w.0 ≡ n) {r : Result A WrongLine} (er : r ≡ ok_or o w) where
    pub due_err : {x : WrongLine} → r ≡ Err x → due n key value next s ≡ Err x
    due_err h = due_value ∙ rw (← eo) (wrong_of o (λ x. next x (after 10 s)) ew er h)

    pub due_ok : {x : A} → r ≡ Ok x → {t : List ℕ} → t ≡ after 10 s → due n key value next s ≡ next x t
    due_ok h et = due_value ∙ rw (← eo, ← et) (right_of n w o (λ x. next x _) er h)

-- an error that is handed on
pub handed_on :
    {A : Type 0} (r : Result A WrongLine) (e : WrongLine) → IsErr r × IsErrAnd r (λ d. d ≡ e) → r ≡ Err e
handed_on (Ok x) e h = absurd h.1
handed_on (Err d) e h = ap Err h.1

-- an empty value says nothing
pub formula_of_nil : formula_named [] ≡ None
unfolding named same_bytes
formula_of_nil = refl

pub white_of_nil : white_named [] ≡ None
unfolding named same_bytes
white_of_nil = refl

pub space_of_nil : space_named [] ≡ None
unfolding named same_bytes
space_of_nil = refl

pub thousandths_of_nil : thousandths_of [] ≡ None
unfolding decimal_of digits_of before index_of
thousandths_of_nil = refl

pub reading_of_nil : (space : Space) → reading_of space [] ≡ None
unfolding reading_of signed_of starts_with before index_of decimal_of digits_of
reading_of_nil space = refl

-- ---- a name, by what the code has of it: whether s is that of x

pub named_none : {A : Type 0} (name : A → List ℕ) (s : List ℕ) → None ≡ named name [] s
unfolding named
named_none name s = refl

module _
    {A : Type 0} (name : A → List ℕ) (x : A) (xs : List A) (s : List ℕ) {b : Bool} (e : b ≡ same_bytes s (name x)) where
  pub named_first : b ≡ true → Some x ≡ named name (x ∷ xs) s
  unfolding named
  named_first h = sym (rw (← e, h))

  pub named_other : b ≡ false → named name xs s ≡ named name (x ∷ xs) s
  unfolding named
  named_other h = sym (rw (← e, h))

-- ---- a reading, by what the code has of it

pub in_space_xyz : {p : Space} (x y z : Decimal) → p ≡ Xyz → Written-as-Xyz x y z ≡ in_space p x y z
in_space_xyz x y z e = rw e

pub in_space_lab : {p : Space} (x y z : Decimal) → p ≡ Lab → Written-as-Lab x y z ≡ in_space p x y z
in_space_lab x y z e = rw e

pub reading_is :
    (space : Space) (s : List ℕ) {t u v w : List ℕ} {p q r : Option Decimal}
    → t ≡ after 32 s → u ≡ before 32 s → p ≡ signed_of u → v ≡ before 32 t → q ≡ signed_of v → w ≡ after 32 t
    → r ≡ signed_of w → three (in_space space) p q r ≡ reading_of space s
unfolding reading_of
reading_is space s et eu ep ev eq ew er = sym (rw (← et, ← eu, ← ep, ← ev, ← eq, ← ew, ← er))

-- ---- the text's ends

pub more_right : (n : ℕ) (t : Ticket) (s : List ℕ) → length s ≡ 0 → Ok t ≡ nothing_more n t s
unfolding nothing_more
more_right n t [] e = refl
more_right n t (x ∷ s) e = absurd (omega arith)

pub more_wrong : (n : ℕ) (t : Ticket) (s : List ℕ) → (length s ≡ 0 → ⊥) → wrong_line n ≡ nothing_more n t s
unfolding nothing_more
more_wrong n t [] e = absurd (e refl)
more_wrong n t (x ∷ s) e = refl

module _ (n : ℕ) (p : Settings) (s : List ℕ) {b : Bool} (e : b ≡ starts_with (ascii "tol=") s) where
  pub factors_missing : b ≡ true → tol_line n p s ≡ factor_lines n p s
  unfolding factor_lines
  factors_missing h = sym (rw (← e, h))

  pub factors_given :
      b ≡ false
      → due n (ascii "l=") thousandths_of (λ x. c_line (n + 1) (filled p x p.c p.tolerance)) s ≡ factor_lines n p s
  unfolding factor_lines
  factors_given h = sym (rw (← e, h))

module _ (next : Next) (n : ℕ) (p : Settings) (s : List ℕ) {b : Bool} (e : b ≡ starts_with (ascii "tol=") s) where
  pub then_missing : b ≡ true → factors_then next n p s ≡ next n p s
  then_missing h = rw (← e, h)

  pub then_given :
      b ≡ false
      → factors_then next n p s
      ≡ due n (ascii "l=") thousandths_of
      (λ l. due (n + 1) (ascii "c=") thousandths_of (λ c. next (n + 1 + 1) (filled p l c p.tolerance))) s
  then_given h = rw (← e, h)

module _ (s : List ℕ) where
  pub ticket_of_long : 4096 < length s → wrong_line 0 ≡ ticket_of s
  unfolding ticket_of
  ticket_of_long h = rw (lt-ltb _ _ h)

  pub ticket_of_short : length s ≤ 4096 → due 1 (ascii "formula=") formula_named (white_line 2) s ≡ ticket_of s
  unfolding ticket_of
  ticket_of_short h = sym (rw (le-ltb _ _ h))
