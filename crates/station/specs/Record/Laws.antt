-- One law for each way out of storing and reading. Assumes nothing.
use Rattle.std.specs.Prelude.{◌≡◌, refl, Bool, true, false, cond, List, ℕ, ◌-◌, ◌%◌, ◌^◌, ◌≤◌, ◌<◌, ℤ, pos, length, Ok, Err, None}
use Rattle.std.proofs.Common.{subst, arith, eq-eqb, ne_eqb, lt-ltb, le-ltb}
use Rattle.rounding.specs.Signed.{∣◌∣, minus, signed}
use Rattle.colour.specs.Conversion.{on_grid}
use Rattle.colour.proofs.Theorems.Conversion.Laws.{on_grid_lem}
use Rattle.colour.specs.Conversion.Ranges.{OnGrid}
use Rattle.colour.specs.declared.conversion.GridColour.{GridColour}
use Rattle.standard.specs.Acceptance.{PlacedOn}
use Rattle.standard.specs.declared.accept.Standard.{Standard}
use Rattle.station.specs.Record.{twos_of, of_twos, encode, store_in, settings_in, colour_in, placed, held_by, decode}
use Rattle.colour.specs.declared.refusal.Refusal.TheVariants as Why

module _ (s : Standard) (xs : List ℕ) where
  pub stores : length xs ≡ 20 → encode s ≡ store_in s xs
  unfolding store_in
  stores n = rw (eq-eqb (length xs) 20 n)

  pub stays : (length xs ≡ 20 → ⊥) → xs ≡ store_in s xs
  unfolding store_in
  stays n = rw (ne_eqb (length xs) 20 n)

module _ (xs : List ℕ) where
  pub decode-held : length xs ≡ 20 → held_by (settings_in xs) (placed (colour_in xs)) ≡ decode xs
  unfolding decode
  decode-held n = rw (eq-eqb (length xs) 20 n)

  pub decode-other : (length xs ≡ 20 → ⊥) → None ≡ decode xs
  unfolding decode
  decode-other n = rw (ne_eqb (length xs) 20 n)

-- ---- two's complement

pub of_twos-low : (n : ℕ) → n < 2 ^ 31 → of_twos n ≡ pos n
unfolding of_twos
of_twos-low n h = rw (lt-ltb n (2 ^ 31) h)

pub of_twos-high : (n : ℕ) → 2 ^ 31 ≤ n → of_twos n ≡ signed true (2 ^ 32 - n)
unfolding of_twos
of_twos-high n h = rw (le-ltb n (2 ^ 31) h)

pub twos_of_below : (z : ℤ) → minus z ≡ true → twos_of z ≡ 2 ^ 32 - ∣ z ∣ % 2 ^ 32
unfolding twos_of
twos_of_below z h = rw h

pub twos_of_not_below : (z : ℤ) → minus z ≡ false → twos_of z ≡ ∣ z ∣
unfolding twos_of
twos_of_not_below z h = rw h

-- ---- a colour, if it lies on the grid

pub placed_is : {c : GridColour} → on_grid c ≡ true → placed c ≡ Ok c
unfolding placed
placed_is h = rw h

pub not_placed : (c : GridColour) → on_grid c ≡ false → placed c ≡ Err Why.OutOfRange
unfolding placed
not_placed c h = rw h

placed-only : (c : GridColour) {d : GridColour} → placed c ≡ Ok d → (on_grid c ≡ true) × (c ≡ d)
unfolding placed
placed-only c {d} = go (on_grid c) refl
  where
    go : (b : Bool) → on_grid c ≡ b → cond b (Ok c) (Err Why.OutOfRange) ≡ Ok d → (on_grid c ≡ true) × (c ≡ d)
    go true e h = (e, cc)
    go false e h = let no : ◌≡◌ {A = ℕ} 0 1 = cc in absurd (omega arith)

pub placed_at : (c : GridColour) {d : GridColour} → placed c ≡ Ok d → c ≡ d
placed_at c e = (placed-only c e).1

pub placed_on_grid : (c : GridColour) → PlacedOn (placed c)
placed_on_grid c d e = let (on, same) = placed-only c e in subst (λ (x : GridColour). OnGrid x) same (on_grid_lem c on)
