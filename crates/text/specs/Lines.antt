-- A text's lines, parted at LF. Definitions only: Lines/Laws.antt shows that they make up the text, and that no others
-- do. Assumes nothing.
use Rattle.std.specs.Prelude.{ℕ, zero, suc, Bool, true, false, cond, List, [], ◌∷◌, eqb, Option, None, Some}
use Rattle.text.specs.Bytes.{starts_with}

-- a line without its LF; what stands after the last LF is a line too, one that lacks its LF
pub data Line : Type 0 where
  ended : List ℕ → Line
  unended : List ℕ → Line

abbrev pub content : Line → List ℕ
content (ended s) = s
content (unended s) = s

abbrev pub is_ended : Line → Bool
is_ended (ended s) = true
is_ended (unended s) = false

-- the lines of a text that has the byte x, no LF, before these
abbrev pub longer : ℕ → List Line → List Line
longer x [] = unended (x ∷ []) ∷ []
longer x (ended s ∷ ls) = ended (x ∷ s) ∷ ls
longer x (unended s ∷ ls) = unended (x ∷ s) ∷ ls

unfoldable pub lines_of : List ℕ → List Line
lines_of [] = []
lines_of (x ∷ s) = cond (eqb x 10) (ended [] ∷ lines_of s) (longer x (lines_of s))

-- the n-th of a list, counted from 1
unfoldable pub nth : {A : Type 0} → ℕ → List A → Option A
nth n [] = None
nth zero (x ∷ xs) = None
nth (suc zero) (x ∷ xs) = Some x
nth (suc (suc n)) (x ∷ xs) = nth (suc n) xs

-- there is such a line, and it starts with the key
abbrev pub starts_line : (key : List ℕ) → Option Line → Bool
starts_line key None = false
starts_line key (Some x) = starts_with key (content x)
