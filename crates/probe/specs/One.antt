-- Any two outcomes that a contract of `probe` admits on one input are equal: the number, and what `out` then holds. A
-- contract that is one equation with the result is not listed; `probe_printed` is under `printing`'s `prints_one`.
-- Assumes nothing.
use Rattle.std.specs.Prelude.{◌≡◌, List, ℕ, Float, ℤ}
use Rattle.std.proofs.Common.{sym, ap, ◌∙◌}
use Rattle.reading.specs.Reading.{float_units, decimal_units}
use Rattle.colour.specs.White.{white_numbered}
use Rattle.colour.specs.declared.placed.Values.TheVariants.{Xyz, Lab}
use Rattle.probe.specs.Ground.{Answer, answer, quantity_of, decimal_of, units_answer, numbered_answer}

abbrev pub AnswersOne : Answer → Type 0
AnswersOne a = (r q : ℕ) (xs ys : List ℤ) → answer r xs ≡ a → answer q ys ≡ a → (r ≡ q) × (xs ≡ ys)

answers_one : (a : Answer) → AnswersOne a
answers_one a r q xs ys g h =
    (ap (λ (b : Answer). b.number) (g ∙ sym h), ap (λ (b : Answer). b.holds) (g ∙ sym h))

module _ (out : List ℤ) where
  -- of `probe_units`
  pub units_one : (quantity : ℕ) (x : Float) → AnswersOne (units_answer (float_units (quantity_of quantity) x) out)
  units_one quantity x = answers_one (units_answer (float_units (quantity_of quantity) x) out)

  -- of `probe_decimal`
  pub decimal_one :
      (quantity below millionths : ℕ) →
      AnswersOne (units_answer (decimal_units (quantity_of quantity) (decimal_of below millionths)) out)
  decimal_one quantity below millionths =
      answers_one (units_answer (decimal_units (quantity_of quantity) (decimal_of below millionths)) out)

  -- of `probe_place_xyz`
  pub place_xyz_one : (white : ℕ) (x y z : Float) → AnswersOne (numbered_answer (white_numbered white) (Xyz x y z) out)
  place_xyz_one white x y z = answers_one (numbered_answer (white_numbered white) (Xyz x y z) out)

  -- of `probe_place_lab`
  pub place_lab_one : (white : ℕ) (l a b : Float) → AnswersOne (numbered_answer (white_numbered white) (Lab l a b) out)
  place_lab_one white l a b = answers_one (numbered_answer (white_numbered white) (Lab l a b) out)
