-- docs/SCOPE.md 13.6, what a dyer may ask: the order of the cones does not matter to the mean, nor to any cone's own
-- DE; and cones of one colour have that for their mean, and a DE of 0 each. `List.Permᴰ us vs` is the library's: vs is
-- us in another order. Assumes nothing.
use Rattle.std.specs.Prelude.{◌≡◌, refl, ℕ, zero, suc, ◌<◌, length, get_or}
use Rattle.std.proofs.Common.{sym, ap₂, ◌∙◌, zero-lt-suc, arith}
use Rattle.std.proofs.Math.Path.{ap}
use mathlib.Core.List.Permᴰ
use mathlib.Core.List.{List, Permᴰ}
use Rattle.std.proofs.lemmas.List.{length-map}
use Rattle.std.proofs.Math.ListN.{get_or-map}
use Rattle.rounding.specs.Every.{Every, every_at, every_map}
use Rattle.rounding.proofs.Theorems.Mean.Laws.{mean_perm, mean_same}
use Rattle.colour.specs.declared.conversion.GridColour.{GridColour}
use Rattle.colour.specs.Placed.{Reading}
use Rattle.colour.specs.declared.white.White.{White}
use Rattle.sheet.proofs.Theorems.Sheet.Facts.{sheet_self}
use Rattle.sheet.specs.declared.differences.Differences.{Differences}
use Rattle.sheet.specs.declared.formula.Formula.TheVariants.{CMC}
use Rattle.cones.specs.InTurn.{whole}
use Rattle.cones.proofs.Theorems.InTurn.Exactly.{taken_perm, whole_exactly}
use Rattle.cones.specs.Cones.{no_reading, turn_in, cones_in, no_colour}
use Rattle.delivery.specs.Delivery.{mean_colour, difference_from, differences}
use Rattle.delivery.specs.Farthest.{farthest}
use Rattle.delivery.proofs.Theorems.Farthest.Laws.{IsFarthest, farthest_is}

-- ---- THE ORDER OF THE CONES DOES NOT MATTER

-- the same readings in another order are accepted too, with the same colours in that order
pub order_of_readings :
    (w : White) {rs ss : List Reading} {cs : List GridColour} → Permᴰ rs ss → cones_in w rs ≡ whole cs →
    (ds : List GridColour) × ((cones_in w ss ≡ whole ds) × Permᴰ cs ds)
order_of_readings w {rs} {ss} {cs} p e =
    let (ds, (t, q)) = taken_perm (turn_in w) p ((whole_exactly (turn_in w) no_reading rs cs).0 e) in
    (ds, ((whole_exactly (turn_in w) no_reading ss ds).1 t, q))

module _ {cs ds : List GridColour} (p : Permᴰ cs ds) where
  -- to the mean
  pub mean_in_any_order : mean_colour cs ≡ mean_colour ds
  unfolding mean_colour
  mean_in_any_order =
      rw (
        mean_perm (Permᴰ.map (λ (c : GridColour). c.L.0) p),
        mean_perm (Permᴰ.map (λ (c : GridColour). c.a.0) p),
        mean_perm (Permᴰ.map (λ (c : GridColour). c.b.0) p),
      )

  module _ (l c : ℕ) where
    -- nor to the DE, which are in that order too
    pub differences_in_any_order : Permᴰ (differences l c cs) (differences l c ds)
    differences_in_any_order =
        rw mean_in_any_order (Permᴰ.map (difference_from l c (mean_colour ds)) p)

    -- each cone keeps its own: cone i of the one, where it is cone j of the other
    pub own_difference :
        (i j : ℕ) → get_or cs i no_colour ≡ get_or ds j no_colour →
        get_or (differences l c cs) i (difference_from l c (mean_colour cs) no_colour)
        ≡ get_or (differences l c ds) j (difference_from l c (mean_colour ds) no_colour)
    own_difference i j e =
        get_or-map (difference_from l c (mean_colour cs)) cs i no_colour
        ∙ ap₂ (difference_from l c) mean_in_any_order e
        ∙ sym (get_or-map (difference_from l c (mean_colour ds)) ds j no_colour)

-- ---- CONES OF ONE COLOUR

pub no_difference_of_one : (l c : ℕ) (one : GridColour) → difference_from l c one one ≡ 0
unfolding difference_from
no_difference_of_one l c one = ap (λ (d : Differences). d.DE) (sheet_self 20 CMC l c one)

module _
    (one : GridColour) {cs : List GridColour} (some : 0 < length cs) (same : Every (λ (c : GridColour). c ≡ one) cs)
  where
    -- have it for their mean
    pub mean_of_one_colour : mean_colour cs ≡ one
    unfolding mean_colour
    mean_of_one_colour =
        rw (
          mean_same one.L.0 (rw (length-map cs (λ (c : GridColour). c.L.0)) some)
              (every_map (λ (c : GridColour). c.L.0) (λ c e. ap (λ (d : GridColour). d.L.0) e) same),
          mean_same one.a.0 (rw (length-map cs (λ (c : GridColour). c.a.0)) some)
              (every_map (λ (c : GridColour). c.a.0) (λ c e. ap (λ (d : GridColour). d.a.0) e) same),
          mean_same one.b.0 (rw (length-map cs (λ (c : GridColour). c.b.0)) some)
              (every_map (λ (c : GridColour). c.b.0) (λ c e. ap (λ (d : GridColour). d.b.0) e) same),
        )

    -- and a DE of 0 each
    pub no_difference : (l c : ℕ) → Every (λ (d : ℕ). d ≡ 0) (differences l c cs)
    no_difference l c =
        rw mean_of_one_colour
        (every_map (difference_from l c one) (λ t e. ap (difference_from l c one) e ∙ no_difference_of_one l c one) same)

    -- so that none is farther than cone 0
    pub farthest_of_one_colour : (l c : ℕ) → (farthest (differences l c cs)).at ≡ 0
    farthest_of_one_colour l c = go (farthest all).at refl
      where
        all : List ℕ
        all = differences l c cs

        first : IsFarthest all (farthest all)
        first = farthest_is all (rw (length-map cs (difference_from l c (mean_colour cs))) some)

        go : (at : ℕ) → (farthest all).at ≡ at → at ≡ 0
        go zero e = refl
        go (suc at) e =
            let none = every_at (no_difference l c) _ 0 first.within in
            absurd (omega (arith, first.first 0 (rw e (zero-lt-suc at)), first.is, none))
