-- Any two outcomes that a contract of `ticket` admits on one input are equal. `parse` is under one equation; these seven
-- stand inside the crate. Assumes nothing.
use Rattle.std.specs.Prelude.{◌≡◌, ◌+◌, Bool, true, false, cond, List, [], ℕ, length, Option, Result, Ok, Err}
use Rattle.std.proofs.Common.{sym, ap, ◌∙◌, refl, subst, append-nil, arith}
use borrow.Author.Tests.{eq-eqb}
use Rattle.reading.specs.declared.decimal.Decimal.{Decimal}
use Rattle.text.specs.Bytes.{starts_with, same_bytes}
use Rattle.text.proofs.Theorems.Bytes.Parts.{starts-append, same_is}
use Rattle.colour.specs.Placed.{Written}
use Rattle.colour.specs.declared.placed.Values.TheVariants as W
use Rattle.colour.specs.declared.placed.Space.{Space}
use Rattle.colour.specs.declared.white.White.{White}
use Rattle.colour.specs.declared.white.White.TheVariants.{D65Ten}
use Rattle.sheet.specs.declared.formula.Formula.{Formula}
use Rattle.sheet.specs.declared.formula.Formula.TheVariants.{CIELAB}
use Rattle.sheet.specs.declared.settings.Settings.{Settings}
use Rattle.ticket.specs.declared.lines.WrongLine.{WrongLine}
use Rattle.ticket.specs.Ticket.{formula_named, white_named, space_named, reading_of, Parsed, wrong_line, blank}
use Rattle.ticket.specs.Ticket.Laws.{GoesOn, Next}

-- of `formula_named`
pub formula_named_one : (s : List ℕ) (r q : Option Formula) → r ≡ formula_named s → q ≡ formula_named s → r ≡ q
formula_named_one s r q g h = g ∙ sym h

-- of `white_named`
pub white_named_one : (s : List ℕ) (r q : Option White) → r ≡ white_named s → q ≡ white_named s → r ≡ q
white_named_one s r q g h = g ∙ sym h

-- of `space_named`
pub space_named_one : (s : List ℕ) (r q : Option Space) → r ≡ space_named s → q ≡ space_named s → r ≡ q
space_named_one s r q g h = g ∙ sym h

-- of `reading_of`
pub reading_of_one :
    (space : Space) (s : List ℕ) (r q : Option Written) → r ≡ reading_of space s → q ≡ reading_of space s → r ≡ q
reading_of_one space s r q g h = g ∙ sym h

-- ---- what was read of some lines: the error, or what the answer holds

abbrev error_in : WrongLine → Parsed → WrongLine
error_in d (Ok t) = d
error_in d (Err e) = e

abbrev is_right : Parsed → ℕ
is_right (Ok t) = 1
is_right (Err e) = 0

abbrev line_in : Parsed → ℕ
line_in (Ok t) = 0
line_in (Err e) = e.0

abbrev readings_in : Written × Written → Parsed → Written × Written
readings_in z (Ok t) = (t.reference, t.test)
readings_in z (Err e) = z

abbrev settings_in : Settings → Parsed → Settings
settings_in p (Ok t) = t.settings
settings_in p (Err e) = p

same_self : (s : List ℕ) → same_bytes s s ≡ true
unfolding same_bytes
same_self s = rw (eq-eqb (length s) (length s) refl) (subst (λ t. starts_with s t ≡ true) (append-nil s) (starts-append s []))

asked_line : (b c : Bool) → line_in (cond b (wrong_line 0) (wrong_line 1)) ≡ line_in (cond c (wrong_line 0) (wrong_line 1)) → b ≡ c
asked_line true true h = refl
asked_line true false h = absurd (omega (arith, h))
asked_line false true h = absurd (omega (arith, h))
asked_line false false h = refl

-- ---- of `factor_lines` and `setting_lines`, whose answer x holds settings, a line's number and the text from it on

module _ {A : Type 0} (settings : A → Settings) (line : A → ℕ) (text : A → List ℕ) where
  -- their clause `one`
  abbrev pub Admits : (Next → Parsed) → Result A WrongLine → Type 0
  Admits whole r = (next : Next) → GoesOn (whole next) r (λ x. next (line x) (settings x) (text x))

  -- the same error, or the same in each part
  abbrev pub Same : Result A WrongLine → Result A WrongLine → Type 0
  Same (Ok x) (Ok y) = (settings x ≡ settings y) × (line x ≡ line y) × (text x ≡ text y)
  Same (Ok x) (Err e) = ⊥
  Same (Err d) (Ok y) = ⊥
  Same (Err d) (Err e) = d ≡ e

  pub lines_one : (whole : Next → Parsed) (r q : Result A WrongLine) → Admits whole r → Admits whole q → Same r q
  lines_one whole (Err d) (Err e) g h =
      let any : Next = λ n p s. wrong_line 0 in
      ap (error_in d) (sym (g any) ∙ h any)
  lines_one whole (Ok x) (Err e) g h =
      let other : Next = λ n p s. wrong_line (e.0 + 1) in
      let same : e.0 + 1 ≡ e.0 = ap line_in (sym (g other) ∙ h other) in
      absurd (omega (arith, same))
  lines_one whole (Err d) (Ok y) g h =
      let other : Next = λ n p s. wrong_line (d.0 + 1) in
      let same : d.0 ≡ d.0 + 1 = ap line_in (sym (g other) ∙ h other) in
      absurd (omega (arith, same))
  lines_one whole (Ok x) (Ok y) g h =
      let zero : Decimal = record { below = false; millionths = 0 } in
      let reading : Written = W.Xyz zero zero zero in
      let held : Next = λ n p s. Ok (record { settings = p; reference = reading; test = reading }) in
      let counted : Next = λ n p s. wrong_line n in
      let asked : Next = λ n p s. cond (same_bytes s (text x)) (wrong_line 0) (wrong_line 1) in
      let told = ap line_in (sym (g asked) ∙ h asked) in (
        ap (settings_in (settings x)) (sym (g held) ∙ h held),
        ap line_in (sym (g counted) ∙ h counted),
        sym (same_is _ _ (sym (asked_line _ _ told) ∙ same_self (text x))),
      )

-- ---- of `reading_lines`, whose answer x holds two readings

module _ {A : Type 0} (reference test : A → Written) where
  -- its contract
  abbrev pub AdmitsPair : (Settings → Parsed) → Result A WrongLine → Type 0
  AdmitsPair whole r =
      (p : Settings)
      → GoesOn (whole p) r (λ x. Ok (record { settings = p; reference = reference x; test = test x }))

  abbrev pub SamePair : Result A WrongLine → Result A WrongLine → Type 0
  SamePair (Ok x) (Ok y) = ◌≡◌ {A = Written × Written} (reference x, test x) (reference y, test y)
  SamePair (Ok x) (Err e) = ⊥
  SamePair (Err d) (Ok y) = ⊥
  SamePair (Err d) (Err e) = d ≡ e

  abbrev p : Settings
  p = blank CIELAB D65Ten

  pub readings_one :
      (whole : Settings → Parsed) (r q : Result A WrongLine) → AdmitsPair whole r → AdmitsPair whole q → SamePair r q
  readings_one whole (Err d) (Err e) g h = ap (error_in d) (sym (g p) ∙ h p)
  readings_one whole (Ok x) (Err e) g h = absurd (omega (arith, ap is_right (sym (g p) ∙ h p)))
  readings_one whole (Err d) (Ok y) g h = absurd (omega (arith, ap is_right (sym (g p) ∙ h p)))
  readings_one whole (Ok x) (Ok y) g h = ap (readings_in (reference x, test x)) (sym (g p) ∙ h p)
