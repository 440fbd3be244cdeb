-- A text put into a list of bytes, and what a function that puts one ensures. Laws are in `Put/Laws.antt`.
-- Assumes nothing.
use Rattle.std.specs.Prelude.{◌≡◌, List, [], ◌∷◌, ◌++◌, ℕ, ◌+◌, ◌≤◌, length, take, drop}
use Rattle.text.specs.Ascii.{ascii}

-- xs with s for what stood there from index at on
unfoldable pub put_at : List ℕ → ℕ → List ℕ → List ℕ
put_at xs at s = take at xs ++ s ++ drop (at + length s) xs

-- xs has room for s from index at on
pub record Room (xs : List ℕ) (at : ℕ) (s : List ℕ) : Type 0 where
  pub room : at + length s ≤ length xs

-- s is put into xs from index at: the index after it is r, and what is left is ys
pub record Puts (xs : List ℕ) (at : ℕ) (s : List ℕ) (r : ℕ) (ys : List ℕ) : Type 0 where
  pub end : r ≡ at + length s
  pub bytes : ys ≡ put_at xs at s

-- ---- texts one after the other

abbrev pub joined : List (List ℕ) → List ℕ
joined [] = []
joined (s ∷ ss) = s ++ joined ss

-- a line KEY=VALUE of a ticket or a report, with its LF
unfoldable pub line : (key value : List ℕ) → List ℕ
line key value = joined (key ∷ value ∷ ascii "\n" ∷ [])
