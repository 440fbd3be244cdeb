-- A byte that no piece of a text has parts the text there. Assumes nothing.
use Rattle.std.specs.Prelude.{ℕ, suc, ◌+◌, ◌<◌, ◌≡◌, Bool, true, false, cond, not, ◌&&◌, eqb, length, take, drop, get_or}
use Rattle.std.proofs.Math.Path.{refl}
use Rattle.std.proofs.Common.{sym, ap, ◌∙◌, length-append, arith, le_of_suc-le-suc}
use Rattle.std.proofs.lemmas.Bool.{false≢true}
use mathlib.Core.List.{List, [], ◌∷◌, ◌++◌, append-nil}
use Rattle.std.proofs.Math.ListN.{drop_of_length-le}
use Rattle.std.proofs.Math.Seq.{take_all, take-append_seam, drop-append-add, drop-length, split_at}
use Rattle.std.proofs.Math.Numerals.{add-one}
use borrow.Author.Tests.{lt-ltb, ltb-true, ltb-false, eq-eqb, eqb-true, ne_eqb}
use Rattle.text.specs.Bytes.{index_of, has, before, after, starts_with, same_bytes}

-- b does not stand in the text
abbrev pub free : ℕ → List ℕ → Bool
free b [] = true
free b (x ∷ s) = not (eqb x b) && free b s

free_step : (e : Bool) {f g : Bool} → e && f ≡ true → (f ≡ true → g ≡ true) → e && g ≡ true
free_step true h ih = ih h
free_step false h ih = h

pub free-append : (b : ℕ) (s t : List ℕ) → free b s ≡ true → free b t ≡ true → free b (s ++ t) ≡ true
free-append b [] t h k = k
free-append b (x ∷ s) t h k = free_step (not (eqb x b)) h (λ g. free-append b s t g k)

pub free-head : (e : Bool) {f : Bool} → not e && f ≡ true → (e ≡ false) × (f ≡ true)
free-head true h = absurd (false≢true h)
free-head false h = (refl, h)

module _ (b : ℕ) where
  index_step : (e : Bool) {f : Bool} {i n : ℕ} → not e && f ≡ true → (f ≡ true → i ≡ n) → cond e 0 (suc i) ≡ suc n
  index_step true h ih = absurd (false≢true h)
  index_step false h ih = ap suc (ih h)

  index-append : (s t : List ℕ) → free b s ≡ true → index_of b (s ++ (b ∷ t)) ≡ length s
  unfolding index_of
  index-append [] t h = rw (eq-eqb b b refl)
  index-append (x ∷ s) t h = index_step (eqb x b) h (index-append s t)

  module _ (s : List ℕ) (h : free b s ≡ true) (t : List ℕ) where
    pub has-append : has b (s ++ (b ∷ t)) ≡ true
    has-append =
        let u = s ++ (b ∷ t) in
        lt-ltb (index_of b u) (length u) (omega (arith, index-append s t h, length-append s (b ∷ t)))

    pub before_append : before b (s ++ (b ∷ t)) ≡ s
    unfolding before
    before_append = rw (index-append s t h) (take-append_seam s (b ∷ t))

    pub after-append : after b (s ++ (b ∷ t)) ≡ t
    unfolding after
    after-append = rw (index-append s t h) (drop-append-add s (b ∷ t) 1)

-- ---- a text parts at its first b

module _ (b : ℕ) where
  index_step_is :
      (s : List ℕ) (x : ℕ) (e : Bool) → eqb x b ≡ e → (index_of b s < length s → get_or s (index_of b s) 0 ≡ b)
      → cond e 0 (suc (index_of b s)) < suc (length s) → get_or (x ∷ s) (cond e 0 (suc (index_of b s))) 0 ≡ b
  index_step_is s x true h ih k = eqb-true x b h
  index_step_is s x false h ih k = ih (le_of_suc-le-suc k)

  index_is : (s : List ℕ) → index_of b s < length s → get_or s (index_of b s) 0 ≡ b
  unfolding index_of
  index_is [] k = absurd (omega arith)
  index_is (x ∷ s) k = index_step_is s x (eqb x b) refl (index_is s) k

  free_before_step :
      (s : List ℕ) (x : ℕ) (e : Bool) (i : ℕ) → eqb x b ≡ e → free b (take i s) ≡ true
      → free b (take (cond e 0 (suc i)) (x ∷ s)) ≡ true
  free_before_step s x true i h ih = refl
  free_before_step s x false i h ih = rw h ih

  pub free_before : (s : List ℕ) → free b (before b s) ≡ true
  unfolding before index_of
  free_before [] = refl
  free_before (x ∷ s) = free_before_step s x (eqb x b) (index_of b s) refl (free_before s)

  module _ (s : List ℕ) where
    pub parted : has b s ≡ true → s ≡ before b s ++ (b ∷ after b s)
    unfolding before after
    parted h =
        let k = ltb-true (index_of b s) (length s) h in
        split_at s (index_of b s) 0 k ∙ rw (index_is s k, add-one (index_of b s))

    pub before_all : has b s ≡ false → before b s ≡ s
    unfolding before
    before_all h = take_all (index_of b s) s (ltb-false (index_of b s) (length s) h)

    pub free_of_none : has b s ≡ false → free b s ≡ true
    free_of_none h = rw (before_all h) at (free_before s)

    pub after_none : has b s ≡ false → after b s ≡ []
    unfolding after
    after_none h =
        let k = ltb-false (index_of b s) (length s) h in
        drop_of_length-le s {i = index_of b s + 1} (omega arith)

-- ---- a text that starts with a key

pub starts-append : (key t : List ℕ) → starts_with key (key ++ t) ≡ true
unfolding starts_with
starts-append [] t = refl
starts-append (k ∷ key) t = rw (eq-eqb k k refl) (starts-append key t)

pub starts_false_of_free : (b : ℕ) (s : List ℕ) → free b s ≡ true → starts_with (b ∷ []) s ≡ false
unfolding starts_with
starts_false_of_free b [] h = refl
starts_false_of_free b (x ∷ s) h =
    let stands : b ≡ x → not (eqb x b) && free b s ≡ false =
    λ e. ap (λ (v : Bool). not v && free b s) (eq-eqb x b (sym e)) in
    rw (ne_eqb b x (λ e. false≢true (sym (stands e) ∙ h)))

and_both : (e : Bool) {f : Bool} → e && f ≡ true → (e ≡ true) × (f ≡ true)
and_both true h = (refl, h)
and_both false h = absurd (false≢true h)

pub starts_is : (key s : List ℕ) → starts_with key s ≡ true → s ≡ key ++ drop (length key) s
unfolding starts_with
starts_is [] s h = refl
starts_is (k ∷ key) [] h = absurd (false≢true h)
starts_is (k ∷ key) (x ∷ s) h =
    let g = and_both (eqb k x) h in
    ap (λ (y : ℕ). y ∷ s) (sym (eqb-true k x g.0)) ∙ ap (λ (t : List ℕ). k ∷ t) (starts_is key s g.1)

pub same_is : (s t : List ℕ) → same_bytes s t ≡ true → s ≡ t
unfolding same_bytes
same_is s t h =
    let g = and_both (eqb (length s) (length t)) h in
    let long = eqb-true (length s) (length t) g.0 in
    let nothing : drop (length s) t ≡ [] = ap (λ (n : ℕ). drop n t) long ∙ drop-length t in
    sym (starts_is s t g.1 ∙ ap (λ (u : List ℕ). s ++ u) nothing ∙ append-nil s)

-- a key without b lies before the first b, if it lies there at all
pub starts_seam :
    (b : ℕ) (key s t : List ℕ) → free b key ≡ true → starts_with key (s ++ (b ∷ t)) ≡ starts_with key s
unfolding starts_with
starts_seam b [] s t h = refl
starts_seam b (k ∷ key) [] t h = rw (free-head (eqb k b) h).0
starts_seam b (k ∷ key) (x ∷ s) t h = ap (λ (z : Bool). eqb k x && z) (starts_seam b key s t (free-head (eqb k b) h).1)
