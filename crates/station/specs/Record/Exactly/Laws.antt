-- The slice's numbers are those of a standard, unless one of them is outside. Assumes nothing.
use Rattle.std.proofs.Math.Path.{◌≡◌, refl}
use Rattle.std.proofs.Common.{sym, subst, ◌∙◌, true≢false, inl, inr, not-le_of_lt, arith, leb-false, eqb-true}
use Rattle.std.specs.Prelude.{Bool, ◌&&◌, List, ◌↔◌, ◌⊎◌, ℕ, ◌*◌, ◌^◌, ◌<◌, eqb, ℤ, length, get_or, Result, Ok, Err, Option, None}
use Rattle.std.proofs.Math.Bool.{true, false, cond}
use Rattle.std.proofs.lemmas.Bool.{eqb-false}
use Rattle.rounding.specs.Signed.{∣◌∣, minus}
use Rattle.reading.specs.Reading.{range_of, is_within}
use Rattle.reading.proofs.Theorems.Reading.Laws.{is_lightness_lem, is_opponent_lem}
use Rattle.reading.specs.declared.quantity.Quantity.TheVariants.{Lightness, Opponent}
use Rattle.colour.specs.Conversion.{on_grid}
use Rattle.colour.specs.Conversion.Ranges.{OnGrid}
use Rattle.colour.specs.declared.conversion.GridColour.{GridColour}
use Rattle.sheet.specs.declared.settings.Settings.{Settings}
use Rattle.colour.specs.declared.refusal.Refusal.{Refusal}
use Rattle.standard.specs.Acceptance.{Acceptance}
use Rattle.standard.specs.declared.accept.Standard.{Standard}
use Rattle.station.specs.Record.{two, colour_in, placed, held_as, held_by, decode}
use Rattle.station.specs.Record.Laws.{decode-held, decode-other, placed_at, placed_on_grid}
use Rattle.station.specs.Record.Exactly.{NoFormula, NoWhite, FactorsOut, ToleranceOut}
use Rattle.station.specs.Record.Exactly.{NoStandard, of_length, of_formula, of_white}
use Rattle.station.specs.Record.Exactly.{of_factors, of_tolerance, of_lightness, of_a, of_b}
use Rattle.station.specs.Record.Exactly.Accepting.{Named, no_formula_lem, no_white_lem, are, names, accepts, accepting}
use Rattle.station.specs.Record.Exactly.Accepting.{Accepts, factors_out, tolerance_out, reference_out}
use Rattle.colour.specs.declared.refusal.Refusal.TheVariants as Why

data OffGrid (c : GridColour) : Type 0 where
  off_lightness : (minus c.L.0 ≡ true) ⊎ (120 * 2 ^ 20 < ∣ c.L.0 ∣) → OffGrid c
  off_a : 256 * 2 ^ 20 < ∣ c.a.0 ∣ → OffGrid c
  off_b : 256 * 2 ^ 20 < ∣ c.b.0 ∣ → OffGrid c

off_grid : (c : GridColour) → on_grid c ≡ false → OffGrid c
unfolding on_grid
off_grid c =
    go (is_within (range_of Lightness) c.L.0) refl (is_within (range_of Opponent) c.a.0) refl
    (is_within (range_of Opponent) c.b.0) refl
  where
    light : (b : Bool) → minus c.L.0 ≡ b → is_within (range_of Lightness) c.L.0 ≡ false → OffGrid c
    light true m e = off_lightness (inl m)
    light false m e = off_lightness (inr (leb-false _ _ (sym (is_lightness_lem c.L.0 m) ∙ e)))

    far : (k : ℤ) → is_within (range_of Opponent) k ≡ false → 256 * 2 ^ 20 < ∣ k ∣
    far k e = leb-false _ _ (sym (is_opponent_lem k) ∙ e)

    go :
        (x : Bool) → is_within (range_of Lightness) c.L.0 ≡ x →
        (y : Bool) → is_within (range_of Opponent) c.a.0 ≡ y →
        (z : Bool) → is_within (range_of Opponent) c.b.0 ≡ z → x && y && z ≡ false → OffGrid c
    go false hx y hy z hz e = light (minus c.L.0) refl hx
    go true hx false hy z hz e = off_a (far c.a.0 hy)
    go true hx true hy false hz e = off_b (far c.b.0 hz)
    go true hx true hy true hz e = absurd (true≢false e)

module _ (xs : List ℕ) where
  of_colour : OffGrid (colour_in xs) → NoStandard xs
  of_colour (off_lightness h) = of_lightness h
  of_colour (off_a h) = of_a h
  of_colour (off_b h) = of_b h

  off_placed : {n : Refusal} → placed (colour_in xs) ≡ Err n → NoStandard xs
  unfolding placed
  off_placed {n} = go (on_grid (colour_in xs)) refl
    where
      go :
          (b : Bool) → on_grid (colour_in xs) ≡ b → cond b (Ok (colour_in xs)) (Err Why.OutOfRange) ≡ Err n →
          NoStandard xs
      go true e h = let no : ◌≡◌ {A = ℕ} 0 1 = cc in absurd (omega arith)
      go false e h = of_colour (off_grid (colour_in xs) e)

  -- every number within
  all_within :
      length xs ≡ 20 → ¬ (NoFormula (get_or xs 0 0)) → ¬ (NoWhite (get_or xs 1 0)) → ¬ (FactorsOut (two xs 2) (two xs 4)) →
      ¬ (ToleranceOut (two xs 6)) → OnGrid (colour_in xs) → ¬ (NoStandard xs)
  all_within n f w k t on (of_length h) = h n
  all_within n f w k t on (of_formula h) = f h
  all_within n f w k t on (of_white h) = w h
  all_within n f w k t on (of_factors h) = k h
  all_within n f w k t on (of_tolerance h) = t h
  all_within n f w k t on (of_lightness (inl h)) = true≢false (sym h ∙ on.not_below)
  all_within n f w k t on (of_lightness (inr h)) = not-le_of_lt h on.L
  all_within n f w k t on (of_a h) = not-le_of_lt h on.a
  all_within n f w k t on (of_b h) = not-le_of_lt h on.b

  placed-within : {c : GridColour} → placed (colour_in xs) ≡ Ok c → OnGrid (colour_in xs)
  placed-within {c} e =
      subst (λ (d : GridColour). OnGrid d) (sym (placed_at (colour_in xs) e)) (placed_on_grid (colour_in xs) c e)

  -- what 20 bytes hold, by their numbers
  held :
      length xs ≡ 20 → {q : Result Settings Refusal} → Named (get_or xs 0 0) (get_or xs 1 0) (two xs 2) (two xs 4) (two xs 6) q →
      held_by q (placed (colour_in xs)) ≡ None ↔ NoStandard xs
  held n (no_formula_lem h) = (λ e. of_formula h, λ g. refl)
  held n (no_white_lem f h) = (λ e. of_white h, λ g. refl)
  held n (are f g k w h) = go _ (accepting _ (placed (colour_in xs)))
    where
      s : Settings
      s = record { formula = k; white = w; l = two xs 2; c = two xs 4; tolerance = two xs 6 }

      go : (a : Acceptance) → Accepts s (placed (colour_in xs)) a → held_as a ≡ None ↔ NoStandard xs
      go a (factors_out o) = (λ e. of_factors o, λ x. refl)
      go a (tolerance_out m o) = (λ e. of_tolerance o, λ x. refl)
      go a (reference_out m t j o) = (λ e. off_placed o, λ x. refl)
      go a (accepts m t c o) = (
        λ e. let no : ◌≡◌ {A = ℕ} 0 1 = cc in absurd (omega arith),
        λ x. absurd (all_within n f g m t (placed-within o) x),
      )

  -- A SLICE HOLDS NO STANDARD EXACTLY WHERE ITS LENGTH IS NOT 20 OR ONE OF ITS NUMBERS IS OUTSIDE ITS RANGE
  pub no_standard : decode xs ≡ None ↔ NoStandard xs
  no_standard = go (eqb (length xs) 20) refl
    where
      go : (b : Bool) → eqb (length xs) 20 ≡ b → decode xs ≡ None ↔ NoStandard xs
      go false h = (λ e. of_length (eqb-false _ 20 h), λ g. sym (decode-other xs (eqb-false _ 20 h)))
      go true h =
          let n = eqb-true _ 20 h in
          subst (λ (q : Option Standard). q ≡ None ↔ NoStandard xs) (decode-held xs n) (held n (names _ _ _ _ _))
