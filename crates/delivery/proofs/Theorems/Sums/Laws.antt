-- What the loop that adds goes by, and its caller: the sums of i cones are at most i times 256, so they fit; and shared
-- out they are the mean colour. Assumes nothing.
use Rattle.std.specs.Prelude.{◌≡◌, refl, List, [], ◌∷◌, ◌++◌, map, ◌*◌, ◌^◌, ◌≤◌, ℤ, pos, ◌+ℤ◌, length}
use Rattle.std.proofs.Common.{sym, ap, ◌∙◌, arith, SFits, to_z, of_z, to_z-of_z}
use Rattle.std.proofs.lemmas.List.{length-map}
use Rattle.std.specs.Int.{w64}
use Rattle.rounding.specs.Every.{Every, every_map, every_more}
use Rattle.rounding.specs.Every as E
use Rattle.rounding.specs.Mean.{sum}
use Rattle.rounding.proofs.Theorems.Mean.Laws.{sum_more, sum-le}
use Rattle.rounding.specs.Signed.{∣◌∣}
use Rattle.rounding.proofs.Theorems.Signed.Laws.{abs-add-le, fits_of_abs}
use Rattle.colour.specs.Conversion.Ranges.{OnGrid}
use Rattle.colour.specs.declared.conversion.GridColour.{GridColour}
use Rattle.delivery.specs.declared.mean.Sums.{Sums}
use Rattle.delivery.specs.Delivery.{units_of, mean_colour}
use Rattle.delivery.specs.Sums.{AtMost, with_colour, sums_of, mean_of_sums}

-- ---- one colour more

-- in 64 bits
module _ (x y : ℤ) (hx : ∣ x ∣ ≤ 2 ^ 36) (hy : ∣ y ∣ ≤ 256 * 2 ^ 20) where
  sum_back : to_z w64 (of_z w64 x) ≡ x
  sum_back = to_z-of_z {w = w64} (fits_of_abs x (omega arith))

  colour_back : to_z w64 (of_z w64 y) ≡ y
  colour_back = to_z-of_z {w = w64} (fits_of_abs y (omega arith))

  pub adds_fits : SFits w64 (to_z w64 (of_z w64 x) +ℤ to_z w64 (of_z w64 y))
  adds_fits = rw (sum_back, colour_back) (fits_of_abs (x +ℤ y) (omega (arith, abs-add-le x y)))

  pub adds_is : to_z w64 (of_z w64 (to_z w64 (of_z w64 x) +ℤ to_z w64 (of_z w64 y))) ≡ x +ℤ y
  adds_is = to_z-of_z adds_fits ∙ rw (sum_back, colour_back)

map_more : {A B : Type 0} (f : A → B) (us : List A) (v : A) → map f (us ++ (v ∷ [])) ≡ map f us ++ (f v ∷ [])
map_more f [] v = refl
map_more f (u ∷ us) v = ap (λ r. f u ∷ r) (map_more f us v)

sums_more : (us : List GridColour) (c : GridColour) → sums_of (us ++ (c ∷ [])) ≡ with_colour (sums_of us) c
unfolding sums_of
sums_more us c =
    rw (
      map_more (λ (x : GridColour). x.L.0) us c,
      map_more (λ (x : GridColour). x.a.0) us c,
      map_more (λ (x : GridColour). x.b.0) us c,
      sum_more (units_of (λ x. x.L) us) c.L.0,
      sum_more (units_of (λ x. x.a) us) c.a.0,
      sum_more (units_of (λ x. x.b) us) c.b.0,
    )

-- ---- the loop: the sums of the colours so far, which lie on the grid
pub record SumsAre (s : Sums) (us : List GridColour) : Type 0 where
  pub is : s ≡ sums_of us
  pub on_grid_lem : Every OnGrid us

pub no_sums : SumsAre (record { L = pos 0; a = pos 0; b = pos 0 }) []
unfolding sums_of sum
no_sums = record { is = refl; on_grid_lem = E.none }

pub one_more_sum :
    {s t : Sums} {c : GridColour} → OnGrid c → t ≡ with_colour s c → (us : List GridColour) → SumsAre s us →
    SumsAre t (us ++ (c ∷ []))
one_more_sum {c = c} on e us h =
    record {
      is = e ∙ ap (λ (x : Sums). with_colour x c) h.is ∙ sym (sums_more us c);
      on_grid_lem = every_more h.on_grid_lem on;
    }

-- ---- how large they are

pub sums-le : {us : List GridColour} → Every OnGrid us → length us ≤ 256 → AtMost (2 ^ 36) (sums_of us)
unfolding sums_of
sums-le {us} h few =
    let L : GridColour → ℤ = λ c. c.L.0 in
    let a : GridColour → ℤ = λ c. c.a.0 in
    let b : GridColour → ℤ = λ c. c.b.0 in
    record {
      L = omega (arith, sum-le (120 * 2 ^ 20) (every_map L (λ c g. g.L) h), length-map us L);
      a = omega (arith, sum-le (256 * 2 ^ 20) (every_map a (λ c g. g.a) h), length-map us a);
      b = omega (arith, sum-le (256 * 2 ^ 20) (every_map b (λ c g. g.b) h), length-map us b);
    }

pub sums_at_most : {s : Sums} {us : List GridColour} → SumsAre s us → length us ≤ 256 → AtMost (2 ^ 36) s
sums_at_most h few = rw h.is (sums-le h.on_grid_lem few)

-- ---- the mean

pub mean_of_sums_lem : (cs : List GridColour) → mean_of_sums (sums_of cs) (length cs) ≡ mean_colour cs
unfolding sums_of mean_colour
mean_of_sums_lem cs =
    rw (
      length-map cs (λ (c : GridColour). c.L.0),
      length-map cs (λ (c : GridColour). c.a.0),
      length-map cs (λ (c : GridColour). c.b.0),
    )
