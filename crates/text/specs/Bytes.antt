-- Words about a text, which is a list of bytes. Definitions only: Bytes/Laws.antt has what the proofs go by.
-- Assumes nothing.
use Rattle.std.specs.Prelude.{ℕ, suc, ◌+◌, Bool, true, false, cond, ◌&&◌, List, [], ◌∷◌, eqb, ltb, length, take, drop}
pub mod Laws

-- where b first stands in s, or s's length
unfoldable pub index_of : ℕ → List ℕ → ℕ
index_of b [] = 0
index_of b (x ∷ s) = cond (eqb x b) 0 (suc (index_of b s))

abbrev pub has : ℕ → List ℕ → Bool
has b s = ltb (index_of b s) (length s)

-- what stands before the first b, or all of s; and what stands after it, or nothing
unfoldable pub before : ℕ → List ℕ → List ℕ
before b s = take (index_of b s) s

unfoldable pub after : ℕ → List ℕ → List ℕ
after b s = drop (index_of b s + 1) s

unfoldable pub starts_with : List ℕ → List ℕ → Bool
starts_with [] s = true
starts_with (k ∷ key) [] = false
starts_with (k ∷ key) (x ∷ s) = eqb k x && starts_with key s

unfoldable pub same_bytes : List ℕ → List ℕ → Bool
same_bytes s t = eqb (length s) (length t) && starts_with s t
