-- The library's words for a search and a comparison are those of the definitions. Assumes nothing.
use Rattle.std.specs.Prelude.{ℕ, ◌≡◌, refl, Bool, true, false, ◌&&◌, List, [], ◌∷◌, eqb, length, take}
use Rattle.std.proofs.Common.{sym, ap, ◌∙◌, one-add}
use Rattle.std.proofs.lemmas.Bool.{eqb-false}
use Rattle.std.proofs.lemmas.List.Recursion.{is_position_or_len}
use Rattle.std.specs.List.{position_or_len}
use Rattle.std.specs.Cmp.Lexicographic.{pointwise}
use Rattle.std.proofs.Math.Dec.{eqb-zero-suc, eqb-suc-zero, eqb-suc-suc}
use borrow.Author.Tests.{eq-eqb, ne_eqb, eqb-true}
use Rattle.text.specs.Bytes.{index_of, starts_with, same_bytes}

-- ---- a search

pub index_is_position : (b : ℕ) (s : List ℕ) → index_of b s ≡ position_or_len (λ x. eqb x b) s
unfolding index_of
index_is_position b s = is_position_or_len (index_of b) (λ x. eqb x b) refl (λ x t. rw one-add) s

-- ---- a comparison

pub starts_pointwise : (key s : List ℕ) → starts_with key s ≡ pointwise eqb key (take (length key) s)
unfolding starts_with
starts_pointwise [] s = refl
starts_pointwise (k ∷ key) [] = refl
starts_pointwise (k ∷ key) (x ∷ s) = ap (λ (e : Bool). eqb k x && e) (starts_pointwise key s)

-- the other way round, as a prefix is stripped
eqb_swap : (x y : ℕ) (e : Bool) → eqb x y ≡ e → e ≡ eqb y x
eqb_swap x y true h = sym (eq-eqb y x (sym (eqb-true x y h)))
eqb_swap x y false h = sym (ne_eqb y x (λ k. eqb-false x y h (sym k)))

pub strips_pointwise : (key s : List ℕ) → pointwise eqb (take (length key) s) key ≡ starts_with key s
unfolding starts_with
strips_pointwise [] s = refl
strips_pointwise (k ∷ key) [] = refl
strips_pointwise (k ∷ key) (x ∷ s) =
    rw (strips_pointwise key s) (ap (λ (e : Bool). e && starts_with key s) (eqb_swap x k (eqb x k) refl))

and_swap : (a b c : Bool) → a && (b && c) ≡ b && (a && c)
and_swap true b c = refl
and_swap false true c = refl
and_swap false false c = refl

pub same_pointwise : (s t : List ℕ) → same_bytes s t ≡ pointwise eqb s t
unfolding same_bytes starts_with
same_pointwise [] [] = refl
same_pointwise [] (x ∷ t) = rw eqb-zero-suc
same_pointwise (x ∷ s) [] = rw eqb-suc-zero
same_pointwise (x ∷ s) (y ∷ t) =
    rw eqb-suc-suc (and_swap (eqb (length s) (length t)) (eqb x y) (starts_with s t))
    ∙ ap (λ (e : Bool). eqb x y && e) (same_pointwise s t)
