-- The mean lies in the ranges, and so it is a colour of the grid. Assumes nothing.
use Rattle.std.specs.Prelude.{List, ℕ, ◌*◌, ◌^◌, ◌<◌, ℤ, length}
use Rattle.std.proofs.lemmas.List.{length-map}
use Rattle.rounding.specs.Every.{Every, every_map}
use Rattle.rounding.proofs.Theorems.Mean.Laws.{mean-le, mean_not_minus}
use Rattle.colour.specs.Conversion.Ranges.{OnGrid}
use Rattle.colour.specs.declared.conversion.GridColour.{GridColour}
use Rattle.sheet.specs.Settings.{Factor}
use Rattle.sheet.proofs.Theorems.Sheet.Bounds.{sheet-DE-lt}
use Rattle.sheet.specs.declared.formula.Formula.TheVariants.{CMC}
use Rattle.delivery.specs.Delivery.{mean_colour, difference_from}

pub mean_on_grid : {cs : List GridColour} → 0 < length cs → Every OnGrid cs → OnGrid (mean_colour cs)
unfolding mean_colour
mean_on_grid {cs} some h =
    let L : GridColour → ℤ = λ c. c.L.0 in
    let a : GridColour → ℤ = λ c. c.a.0 in
    let b : GridColour → ℤ = λ c. c.b.0 in
    record {
      not_below = mean_not_minus (every_map L (λ c g. g.not_below) h);
      L = mean-le (120 * 2 ^ 20) (rw (length-map cs L) some) (every_map L (λ c g. g.L) h);
      a = mean-le (256 * 2 ^ 20) (rw (length-map cs a) some) (every_map a (λ c g. g.a) h);
      b = mean-le (256 * 2 ^ 20) (rw (length-map cs b) some) (every_map b (λ c g. g.b) h);
    }

-- a DE has few enough units to be handed back exactly
pub difference-lt :
    {l c : ℕ} {M T : GridColour} → Factor l → Factor c → OnGrid M → OnGrid T → difference_from l c M T < 2 ^ 32
unfolding difference_from
difference-lt hl hc m t =
    sheet-DE-lt CMC (record { lightness = hl; chroma = hc; reference = m; specimen = t })
