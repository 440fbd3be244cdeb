-- The ticket of docs/SCOPE.md 9.1 to 9.3 as the code reads it, line by line: the ticket, or the number of the first
-- wrong line. Definitions only. Ticket/Grammar.antt says the same of a text's lines, with no parser, and shows the two
-- to be one; Ticket/Laws.antt has what the proofs go by, Ticket/Theorems.antt and Ticket/AsWritten.antt what follows,
-- Ticket/Cases.antt texts and their answers. Assumes nothing.
use Rattle.std.specs.Prelude.{ℕ, ◌+◌, cond, ◌&&◌, List, [], ◌∷◌, ltb, length, drop, Option, None, Some, Result, Ok, Err}
use Rattle.text.specs.Ascii.{ascii}
use Rattle.text.specs.Bytes.{has, before, after, starts_with, same_bytes}
use Rattle.text.specs.Names.{formula_name, white_name}
use Rattle.text.specs.Number.{both, thousandths_of, signed_of}
use Rattle.reading.specs.declared.decimal.Decimal.{Decimal}
use Rattle.colour.specs.Placed.{Written, in_space}
use Rattle.colour.specs.declared.placed.Values.TheVariants as W
use Rattle.colour.specs.declared.white.White.{White}
use Rattle.colour.specs.declared.white.White.TheVariants.{D65Ten, D65Two, CTen, CTwo}
use Rattle.sheet.specs.declared.formula.Formula.{Formula}
use Rattle.sheet.specs.declared.formula.Formula.TheVariants.{CIELAB, CIE94, CMC}
use Rattle.sheet.specs.declared.settings.Settings.{Settings}
use Rattle.colour.specs.declared.placed.Space.{Space}
use Rattle.colour.specs.declared.placed.Space.TheVariants.{Xyz, Lab}
use Rattle.ticket.specs.declared.lines.Ticket.{Ticket}
use Rattle.ticket.specs.declared.lines.WrongLine.{WrongLine}
pub mod Laws
pub mod Grammar
pub mod Print

-- ---- what a value says

-- the one of xs whose name s is
unfoldable pub named : {A : Type 0} → (name : A → List ℕ) (xs : List A) (s : List ℕ) → Option A
named name [] s = None
named name (x ∷ xs) s = cond (same_bytes s (name x)) (Some x) (named name xs s)

abbrev pub formula_named : List ℕ → Option Formula
formula_named s = named formula_name (CIELAB ∷ CIE94 ∷ CMC ∷ []) s

abbrev pub white_named : List ℕ → Option White
white_named s = named white_name (D65Ten ∷ D65Two ∷ CTen ∷ CTwo ∷ []) s

abbrev pub space_name : Space → List ℕ
space_name Xyz = ascii "XYZ"
space_name Lab = ascii "LAB"

abbrev pub space_named : List ℕ → Option Space
space_named s = named space_name (Xyz ∷ Lab ∷ []) s

abbrev pub space_of : Written → Space
space_of (W.Xyz x y z) = Xyz
space_of (W.Lab x y z) = Lab

abbrev pub three : {A B : Type 0} → (A → A → A → B) → Option A → Option A → Option A → Option B
three f p q r = both (λ g z. g z) (both f p q) r

-- three numbers, one space between
unfoldable pub reading_of : Space → List ℕ → Option Written
reading_of space s =
    three (in_space space) (signed_of (before 32 s)) (signed_of (before 32 (after 32 s)))
    (signed_of (after 32 (after 32 s)))

-- ---- a line

-- the ticket, or the number of its first wrong line
abbrev pub Parsed : Type 0
Parsed = Result Ticket WrongLine

abbrev pub wrong_line : ℕ → Parsed
wrong_line n = Err (record { 0 = n })

abbrev pub or_wrong : {A : Type 0} → ℕ → Option A → (A → Parsed) → Parsed
or_wrong n None next = wrong_line n
or_wrong n (Some x) next = next x

-- The text s starts with line n, a line KEY=VALUE that ends at the first LF. A line that is missing or lacks its LF,
-- another key and a value that says nothing are wrong; otherwise `next` has what the value says, and the text after the
-- LF.
unfoldable pub due : {A : Type 0} → ℕ → (key : List ℕ) → (List ℕ → Option A) → (A → List ℕ → Parsed) → List ℕ → Parsed
due n key value next s =
    cond (has 10 s && starts_with key (before 10 s))
    (or_wrong n (value (drop (length key) (before 10 s))) (λ x. next x (after 10 s)))
    (wrong_line n)

-- ---- the lines in their order, the last one first
-- n is the number of the line that the text starts with, p the settings so far

-- nothing may follow
unfoldable pub nothing_more : ℕ → Ticket → List ℕ → Parsed
nothing_more n t [] = Ok t
nothing_more n t (x ∷ s) = wrong_line n

unfoldable pub test_line : ℕ → Settings → Space → (reference : Written) → List ℕ → Parsed
test_line n p space r =
    due n (ascii "test=") (reading_of space)
    (λ t. nothing_more (n + 1) (record { settings = p; reference = r; test = t }))

unfoldable pub ref_line : ℕ → Settings → Space → List ℕ → Parsed
ref_line n p space = due n (ascii "ref=") (reading_of space) (test_line (n + 1) p space)

unfoldable pub space_line : ℕ → Settings → List ℕ → Parsed
space_line n p = due n (ascii "space=") space_named (ref_line (n + 1) p)

-- a line fills in its own setting
abbrev pub filled : Settings → (l c tolerance : ℕ) → Settings
filled p l c tolerance = record { formula = p.formula; white = p.white; l = l; c = c; tolerance = tolerance }

unfoldable pub tol_line : ℕ → Settings → List ℕ → Parsed
tol_line n p = due n (ascii "tol=") thousandths_of (λ x. space_line (n + 1) (filled p p.l p.c x))

unfoldable pub c_line : ℕ → Settings → List ℕ → Parsed
c_line n p = due n (ascii "c=") thousandths_of (λ x. tol_line (n + 1) (filled p p.l x p.tolerance))

-- l and c may both be missing; a line that starts with tol= says so
unfoldable pub factor_lines : ℕ → Settings → List ℕ → Parsed
factor_lines n p s =
    cond (starts_with (ascii "tol=") s) (tol_line n p s)
    (due n (ascii "l=") thousandths_of (λ x. c_line (n + 1) (filled p x p.c p.tolerance)) s)

-- l and c where both their lines are missing, in thousandths: for the acceptability of a match
abbrev pub missing_l : ℕ
missing_l = 2000

abbrev pub missing_c : ℕ
missing_c = 1000

-- before the line l; no ticket lacks a tolerance
abbrev pub blank : Formula → White → Settings
blank f w = record { formula = f; white = w; l = missing_l; c = missing_c; tolerance = 0 }

unfoldable pub white_line : ℕ → Formula → List ℕ → Parsed
white_line n f = due n (ascii "white=") white_named (λ w. factor_lines (n + 1) (blank f w))

-- THE TICKET: at most 4,096 bytes
unfoldable pub ticket_of : List ℕ → Parsed
ticket_of s = cond (ltb 4096 (length s)) (wrong_line 0) (due 1 (ascii "formula=") formula_named (white_line 2) s)
