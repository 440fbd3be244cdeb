-- What proofs go by of the words of Bytes.antt. Assumes nothing.
use Rattle.std.specs.Prelude.{ℕ, suc, ◌+◌, ◌-◌, ◌≤◌, ◌<◌, ◌≡◌, refl, Bool, true, false, ◌&&◌, List, [], ◌∷◌, eqb, get_or}
use Rattle.std.proofs.Math.Path.{sym, ap}
use Rattle.std.proofs.Common.{◌∙◌, length-drop, take_all, not-suc-le-zero, le_of_suc-le-suc}
use Rattle.std.proofs.lemmas.Bool.{false≢true}
use Rattle.std.proofs.Math.ListN.{length, take, drop, drop_of_length-le}
use Rattle.std.proofs.Math.Seq.{drop-cons}
use native.Mathlib.Omega.{arith}
use Rattle.std.proofs.Math.Numerals.{add-one}
use borrow.Author.Tests.{eq-eqb, ne_eqb}
use Rattle.text.specs.Bytes.{index_of, before, after, starts_with}

pub record Found (b : ℕ) (s : List ℕ) (r : ℕ) : Type 0 where
  pub first : r ≡ index_of b s
  pub within : r ≤ length s

-- ---- a search that has come to index i

module _ (b : ℕ) (s : List ℕ) (i : ℕ) where
  pub index-zero : i < length s → get_or s i 0 ≡ b → index_of b (drop i s) ≡ 0
  unfolding index_of
  index-zero h e = rw (drop-cons s i 0 h, eq-eqb (get_or s i 0) b e)

  pub index-suc : i < length s → (get_or s i 0 ≡ b → ⊥) → index_of b (drop i s) ≡ suc (index_of b (drop (i + 1) s))
  unfolding index_of
  index-suc h e = rw (drop-cons s i 0 h, ne_eqb (get_or s i 0) b e, add-one i)

  pub index_of_end : length s ≤ i → index_of b (drop i s) ≡ 0
  unfolding index_of
  index_of_end h = rw (drop_of_length-le s {i = i} h)

-- ---- a comparison that has come to index i

and_false : (a : Bool) {b : Bool} → b ≡ false → a && b ≡ false
and_false true e = e
and_false false e = refl

pub starts-short : (key s : List ℕ) → length s < length key → starts_with key s ≡ false
unfolding starts_with
starts-short [] s h = absurd (not-suc-le-zero h)
starts-short (k ∷ key) [] h = refl
starts-short (k ∷ key) (x ∷ s) h = and_false (eqb k x) (starts-short key s (le_of_suc-le-suc h))

module _ (key s : List ℕ) (i : ℕ) where
  pub starts-next :
      i < length key → length key ≤ length s → get_or key i 0 ≡ get_or s i 0
      → starts_with (drop i key) (drop i s) ≡ starts_with (drop (i + 1) key) (drop (i + 1) s)
  unfolding starts_with
  starts-next h k e =
      let hs : i < length s = omega arith in
      rw (drop-cons key i 0 h, drop-cons s i 0 hs, eq-eqb (get_or key i 0) (get_or s i 0) e, add-one i)

  pub starts_false :
      i < length key → length key ≤ length s → (get_or key i 0 ≡ get_or s i 0 → ⊥) →
      starts_with (drop i key) (drop i s) ≡ false
  unfolding starts_with
  starts_false h k e =
      let hs : i < length s = omega arith in
      rw (drop-cons key i 0 h, drop-cons s i 0 hs, ne_eqb (get_or key i 0) (get_or s i 0) e)

  pub starts_true : length key ≤ i → starts_with (drop i key) (drop i s) ≡ true
  unfolding starts_with
  starts_true h = rw (drop_of_length-le key {i = i} h)

-- ---- a text that starts with a key

and_right : (a : Bool) {b : Bool} → a && b ≡ true → b ≡ true
and_right true e = e
and_right false e = absurd (false≢true e)

pub length_le_of_starts : (key s : List ℕ) → starts_with key s ≡ true → length key ≤ length s
unfolding starts_with
length_le_of_starts [] s e = omega arith
length_le_of_starts (k ∷ key) [] e = absurd (false≢true e)
length_le_of_starts (k ∷ key) (x ∷ s) e = omega (arith, length_le_of_starts key s (and_right (eqb k x) e))

-- ---- parts of a text, as code cuts them

pub drop_is : (s : List ℕ) (i : ℕ) → take (length s - i) (drop i s) ≡ drop i s
drop_is s i = take_all (length s - i) (drop i s) (omega (arith, length-drop i s))

module _ (b : ℕ) (s : List ℕ) {i : ℕ} (f : Found b s i) where
  pub take_before : take i s ≡ before b s
  unfolding before
  take_before = ap (λ (k : ℕ). take k s) f.first

  pub drop-after : take (length s - (i + 1)) (drop (i + 1) s) ≡ after b s
  unfolding after
  drop-after = drop_is s (i + 1) ∙ ap (λ (k : ℕ). drop (k + 1) s) f.first

  pub nothing-after : length s ≤ i → ◌≡◌ {A = List ℕ} [] (after b s)
  unfolding after
  nothing-after h =
      sym (ap (λ (k : ℕ). drop (k + 1) s) (sym f.first) ∙ drop_of_length-le s {i = i + 1} (omega arith))
