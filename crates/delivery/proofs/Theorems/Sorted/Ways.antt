-- Each way out of a delivery whose call was in order: the first refused cone, or the mean and each cone's DE from it.
-- Assumes nothing.
use Rattle.std.specs.Prelude.{◌≡◌, refl, List, ℕ, Float, length, Result, Ok, Err}
use Rattle.std.proofs.Math.Path.{sym, ap}
use Rattle.std.proofs.Common.{◌∙◌, arith}
use Rattle.rounding.specs.Every.{Every}
use Rattle.reading.specs.Grid.{value_of}
use Rattle.colour.specs.Conversion.Ranges.{OnGrid}
use Rattle.colour.specs.declared.conversion.GridColour.{GridColour}
use Rattle.colour.specs.Refusal.{number_of_refusal}
use Rattle.colour.specs.declared.white.White.{White}
use Rattle.cones.specs.InTurn.{Turns, whole, refused}
use Rattle.cones.proofs.Theorems.InTurn.Exactly.{AllTaken, taken-length, whole_exactly}
use Rattle.cones.specs.Cones.{no_reading, turn_in, cones_in, colours_of, colours_in}
use Rattle.cones.proofs.Theorems.Cones.Laws.{taken_on_grid}
use Rattle.colour.specs.Placed.{Reading}
use Rattle.delivery.specs.declared.farthest.Far.{Far}
use Rattle.delivery.specs.declared.mean.Sums.{Sums}
use Rattle.delivery.specs.declared.mean.RefusedCone.{RefusedCone}
use Rattle.delivery.specs.declared.sorted.Sorted.{Sorted}
use Rattle.delivery.specs.Delivery.{mean_colour, differences_from}
use Rattle.delivery.proofs.Theorems.Delivery.Laws.{mean_on_grid}
use Rattle.delivery.specs.Room.{Room, Figures}
use Rattle.delivery.specs.Sums.{sums_of, summed, Shares, mean_of_sums}
use Rattle.delivery.proofs.Theorems.Sums.Laws.{sums-le, mean_of_sums_lem}
use Rattle.delivery.specs.Sorted.{refused_with, sorted_of, Gives, ReadIn}

-- summed turns are whole, and the sums those of their colours
summed_whole : (t : Turns GridColour) {sums : Sums} → summed t ≡ Ok sums →
    (t ≡ whole (colours_of t)) × (sums ≡ sums_of (colours_of t))
summed_whole (whole cs) e = (refl, cc)
summed_whole (refused f i) e = let no : ◌≡◌ {A = ℕ} 0 1 = cc in absurd (omega arith)

summed-refused : (t : Turns GridColour) {f : RefusedCone} → summed t ≡ Err f → t ≡ refused f.refusal f.cone
summed-refused (whole cs) e = let no : ◌≡◌ {A = ℕ} 0 1 = cc in absurd (omega arith)
summed-refused (refused g j) {f} e =
    let same : ◌≡◌ {A = RefusedCone} (record { refusal = g; cone = j }) f = cc in
    ap (λ (x : RefusedCone). refused x.refusal x.cone) same

module _ (w : White) {l c : ℕ} {rs : List Reading} {de : List Float} (asked : ReadIn l c rs de)
    {s : Result Sums RefusedCone} (is : s ≡ summed (cones_in w rs)) where
  abbrev turns : Turns GridColour
  turns = cones_in w rs

  abbrev colours : List GridColour
  colours = colours_in w rs

  -- a cone is refused
  pub gives_refused :
      {f : RefusedCone} {r : Sorted} → s ≡ Err f → r ≡ refused_with (number_of_refusal f.refusal) f.cone →
      Gives l c turns de r de
  gives_refused h e =
      let t = summed-refused turns (sym is ∙ h) in
      record { answer = rw t e; left = rw t refl }

  -- none is
  module _ {sums : Sums} (h : s ≡ Ok sums) where
    is_whole : turns ≡ whole colours
    is_whole = (summed_whole turns (sym is ∙ h)).0

    all_taken : AllTaken (turn_in w) rs colours
    all_taken = (whole_exactly (turn_in w) no_reading rs colours).0 is_whole

    count : length colours ≡ length rs
    count = taken-length (turn_in w) all_taken

    on_grid_lem : Every OnGrid colours
    on_grid_lem = taken_on_grid w all_taken

    sums-are : sums ≡ sums_of colours
    sums-are = (summed_whole turns (sym is ∙ h)).1

    module _ {n : ℕ} (en : n ≡ length rs) where
      pub can_share : Shares sums n
      can_share =
          record {
            some = omega (arith, en, asked.some);
            few = rw en asked.few;
            sums = rw sums-are (sums-le on_grid_lem (rw count asked.few));
          }

      module _ {M : GridColour} (em : M ≡ mean_of_sums sums n) where
        mean_is : M ≡ mean_colour colours
        mean_is = em ∙ rw (sums-are, en, sym count) (mean_of_sums_lem colours)

        pub has_room : Room l c M (length rs) colours de
        has_room =
            record {
              count = count;
              few = asked.few;
              enough = asked.enough;
              lightness = asked.lightness;
              chroma = asked.chroma;
              mean = rw mean_is (mean_on_grid (omega (arith, count, asked.some)) on_grid_lem);
              colours = on_grid_lem;
            }

        pub gives_whole :
            {f : Far} {x y z : Float} {left : List Float} → Figures (differences_from l c M colours) de f left →
            x ≡ value_of M.L.0 → y ≡ value_of M.a.0 → z ≡ value_of M.b.0 →
            Gives l c turns de
            (record { number = 0; cone = 0; lightness = x; a = y; b = z; farthest = f.at; cones = n }) left
        unfolding sorted_of
        gives_whole g ex ey ez =
            record {
              answer = rw (is_whole, ex, ey, ez, g.far, mean_is, en, sym count) refl;
              left = rw is_whole (g.written ∙ rw mean_is);
            }
