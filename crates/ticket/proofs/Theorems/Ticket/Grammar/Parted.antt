-- How a number that is said is written: digits, or digits, a point and digits; before them perhaps a minus.
-- Assumes nothing.
use Rattle.std.specs.Prelude.{ℕ, ◌+◌, ◌*◌, ◌-◌, ◌^◌, ◌≡◌, Bool, List, ◌∷◌, ◌++◌, drop, Option, None, Some}
use Rattle.std.proofs.Math.Path.{refl}
use Rattle.std.proofs.Math.Bool.{true, false}
use Rattle.std.proofs.lemmas.Option.{none-some, same_Some}
use Rattle.std.proofs.Math.ListN.{length}
use Rattle.text.specs.Ascii.{ascii}
use Rattle.text.specs.Bytes.{has, before, after, starts_with}
use Rattle.text.proofs.Theorems.Bytes.Parts.{parted, before_all, starts_is}
use Rattle.text.specs.Number.Laws.{of_map}
use Rattle.text.specs.Number.{digits_of, fraction_of, both, decimal_of, decimal_below, signed_of}
use Rattle.reading.specs.declared.decimal.Decimal.{Decimal}

-- two values that are both there
pub both_some :
    {A B C : Type 0} (f : A → B → C) (p : Option A) (q : Option B) {z : C} → both f p q ≡ Some z
    → (x : A) × (y : B) × (p ≡ Some x) × (q ≡ Some y) × (f x y ≡ z)
both_some f None q h = absurd (none-some _ h)
both_some f (Some x) None h = absurd (none-some _ h)
both_some f (Some x) (Some y) h = (x, y, refl, refl, same_Some _ _ h)

-- ---- a decimal

pub data DecimalParts (whole places : ℕ) (s : List ℕ) : Type 0 where
  no_point : {v : ℕ} → digits_of whole s ≡ Some v → DecimalParts whole places s
  point :
      (u t : List ℕ) {v d : ℕ} → s ≡ u ++ (46 ∷ t) → digits_of whole u ≡ Some v → digits_of places t ≡ Some d
      → DecimalParts whole places s

module _ (whole places : ℕ) (s : List ℕ) where
  by_point :
      (e : Bool) {v w : ℕ} → has 46 s ≡ e → digits_of whole (before 46 s) ≡ Some v → fraction_of places s ≡ Some w
      → DecimalParts whole places s
  unfolding fraction_of
  by_point true e k h =
      let t = after 46 s in
      let g = of_map (λ d. d * 10 ^ (places - length t)) (digits_of places t) (rw e at h) in
      point (before 46 s) t (parted 46 s e) k g.1
  by_point false e k h = no_point (rw (before_all 46 s e) at k)

  pub decimal_parts : {w : ℕ} → decimal_of whole places s ≡ Some w → DecimalParts whole places s
  unfolding decimal_of
  decimal_parts h =
      let g = both_some (λ v d. v * 10 ^ places + d) (digits_of whole (before 46 s)) (fraction_of places s) h in
      by_point (has 46 s) refl g.2 g.3

-- ---- a number of a reading

pub data SignedParts (s : List ℕ) : Type 0 where
  no_minus : {w : ℕ} → decimal_of 3 6 s ≡ Some w → SignedParts s
  minus : (t : List ℕ) {w : ℕ} → s ≡ 45 ∷ t → decimal_of 3 6 t ≡ Some w → SignedParts s

module _ (s : List ℕ) where
  by_minus : (e : Bool) {x : Decimal} → starts_with (ascii "-") s ≡ e → signed_of s ≡ Some x → SignedParts s
  unfolding signed_of
  by_minus true e h =
      let g = of_map (decimal_below true) (decimal_of 3 6 (drop 1 s)) (rw e at h) in
      minus (drop 1 s) (starts_is (ascii "-") s e) g.1
  by_minus false e h =
      let g = of_map (decimal_below false) (decimal_of 3 6 s) (rw e at h) in
      no_minus g.1

  pub signed_parts : {x : Decimal} → signed_of s ≡ Some x → SignedParts s
  signed_parts h = by_minus (starts_with (ascii "-") s) refl h
