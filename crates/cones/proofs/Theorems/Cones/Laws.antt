-- The cones of a delivery as three lists: how many readings they are, and what a loop over the lists goes by
-- (`InTurn/Laws.antt`, with the length of a list for that of the readings). `mean::sum_of` of `delivery` is lent a
-- `Cones`, which is the list of its readings, and goes by `InTurn/Laws.antt` itself. And the colours of a delivery: they
-- lie on the grid, and where there are any, the reading of cone i is placed at colour i, as `Cones::colour` has it.
-- Assumes nothing.
use Rattle.std.specs.Prelude.{◌≡◌, refl, List, [], ◌∷◌, ◌++◌, ℕ, ◌+◌, ◌≤◌, ◌<◌, Float, length, get_or, Ok, Err}
use Rattle.std.proofs.Common.{sym, ap, ◌∙◌, not-suc-le-zero, arith}
use Rattle.rounding.specs.Every.{Every}
use Rattle.rounding.specs.Every as E
use Rattle.colour.specs.Conversion.Ranges.{OnGrid}
use Rattle.colour.specs.Placed.{place, Placed, Reading}
use Rattle.colour.proofs.Theorems.Placed.Laws.{place_on_grid}
use Rattle.colour.specs.declared.conversion.GridColour.{GridColour}
use Rattle.colour.specs.declared.refusal.Refusal.{Refusal}
use Rattle.colour.specs.declared.white.White.{White}
use Rattle.colour.specs.declared.placed.Space.{Space}
use Rattle.cones.specs.Zip.{Even, zip_length}
use Rattle.cones.specs.InTurn.{Turn, Turns, whole, refused, in_turn}
use Rattle.cones.proofs.Theorems.InTurn.Laws.{Passed, AllPassed, passed_none, passed_all, passed-refused, passed_more}
use Rattle.cones.proofs.Theorems.InTurn.Exactly.{AllTaken, none, more, taken_at, taken-length, whole_exactly}
use Rattle.cones.specs.Cones.{readings_of, no_reading, turn_in, cones_in, colours_of, colours_in, no_colour}

pub readings_length : (k : Space) (xs ys zs : List Float) → Even xs ys zs → length (readings_of k xs ys zs) ≡ length xs
readings_length k xs ys zs e = zip_length _ xs ys zs e

-- ---- a loop over the three lists, whatever each cone's turn brings

module _ {W : Type 0} (turn : Reading → Turn W) (k : Space) (xs ys zs : List Float) where
  abbrev pub PassedCones : (i : ℕ) (Q : List W → Type 0) → Type 0
  PassedCones i Q = Passed turn (readings_of k xs ys zs) i Q

  abbrev pub turns : Turns W
  turns = in_turn turn (readings_of k xs ys zs)

  pub no_cones : {Q : List W → Type 0} → Q [] → PassedCones 0 Q
  no_cones h = passed_none turn (readings_of k xs ys zs) h

  module _ {i : ℕ} {Q : List W → Type 0} (e : Even xs ys zs) (p : PassedCones i Q) where
    pub all_cones : length xs ≤ i → AllPassed turn (readings_of k xs ys zs) Q
    all_cones h = passed_all turn p (rw (readings_length k xs ys zs e) h)

    module _ {r : Reading} (l : i < length xs) (at : r ≡ get_or (readings_of k xs ys zs) i no_reading) where
      pub cone-refused : {n : Refusal} → turn r ≡ Err n → turns ≡ refused n i
      cone-refused h = passed-refused turn p no_reading (rw (readings_length k xs ys zs e) l) at h

      pub one_more_cone :
          (v : W) {R : List W → Type 0} → turn r ≡ Ok v →
          ((us : List W) → length us ≡ i → Q us → R (us ++ (v ∷ []))) → PassedCones (i + 1) R
      one_more_cone v h f = passed_more turn p no_reading (rw (readings_length k xs ys zs e) l) at v h f

-- ---- the colours of a delivery

module _ (w : White) where
  -- EACH LIES ON THE GRID
  pub taken_on_grid : {rs : List Reading} {cs : List GridColour} → AllTaken (turn_in w) rs cs → Every OnGrid cs
  taken_on_grid none = E.none
  taken_on_grid (more {p = r} {v = c} e h) = E.more (place_on_grid w r c e) (taken_on_grid h)

  -- a delivery that has a cone with a colour has one for each of its cones
  whole_of_some :
      (rs : List Reading) {i : ℕ} → i < length (colours_in w rs) → cones_in w rs ≡ whole (colours_in w rs)
  whole_of_some rs {i} l = go (cones_in w rs) l
    where
      go : (t : Turns GridColour) → i < length (colours_of t) → t ≡ whole (colours_of t)
      go (whole cs) g = refl
      go (refused n j) g = absurd (not-suc-le-zero g)

  module _ (rs : List Reading) {i : ℕ} (l : i < length (colours_in w rs)) where
    all_taken : AllTaken (turn_in w) rs (colours_in w rs)
    all_taken = (whole_exactly (turn_in w) no_reading rs (colours_in w rs)).0 (whole_of_some rs l)

    pub colour-has-reading : i < length rs
    colour-has-reading = rw (sym (taken-length (turn_in w) all_taken)) l

    -- where the reading of cone i is placed, it is at that cone's colour, and it is not refused
    module _ {r : Reading} {p : Placed} (at : r ≡ get_or rs i no_reading) (is : p ≡ place w r) where
      pub placed_there : p ≡ Ok (get_or (colours_in w rs) i no_colour)
      placed_there =
          is ∙ ap (place w) at ∙ taken_at (turn_in w) all_taken i no_reading no_colour colour-has-reading

      pub colour_there : {c : GridColour} → p ≡ Ok c → c ≡ get_or (colours_in w rs) i no_colour
      colour_there h = let e = placed_there in cc

      pub not_refused : {n : Refusal} → p ≡ Err n → ⊥
      not_refused h = let e = placed_there in let no : ◌≡◌ {A = ℕ} 0 1 = cc in omega arith
