-- docs/SCOPE.md 5, from X, Y, Z to the grid, at n binary places: 2 ^ n stands for 2 ^ 20 and 2 ^ 3n for 2 ^ 60, and n
-- is 20 in the program. X, Y, Z and the white are in millionths; what comes out is in units of 2 ^ -n. The cut and the
-- constants below it are an edition's. Definitions only: `Conversion/Laws.antt` has what callers go by.
-- Assumes nothing.
use Rattle.std.specs.Prelude.{Bool, cond, ◌&&◌, ℕ, ◌+◌, ◌-◌, ◌*◌, ◌/◌, ◌^◌, ltb, ℤ, pos, ◌-ℤ◌}
use Rattle.rounding.specs.Root.{root_of}
use Rattle.rounding.specs.Signed.{∣◌∣, ◌·◌}
use Rattle.reading.specs.Reading.{range_of, is_within}
use Rattle.reading.specs.declared.quantity.Quantity.TheVariants.{Lightness, Opponent}
use Rattle.colour.specs.declared.white.TristimulusValues.{TristimulusValues}
use Rattle.colour.specs.declared.conversion.GridColour.{GridColour}
pub mod Ranges

-- a colour in units of 2 ^ -n
pub record Lab : Type 0 where
  pub L : ℕ
  pub a : ℤ
  pub b : ℤ

-- the fraction `over` / `under`
pub record Ratio : Type 0 where
  pub over : ℕ
  pub under : ℕ

-- what an edition fixes: up to the cut f = slope q + 16/116 and L* = light q
pub record Edition : Type 0 where
  pub cut : Ratio
  pub slope : Ratio
  pub light : Ratio

-- BS 6923: the cut at 0.008856, up to it f = 7.787 q + 16/116 and L* = 903.3 Y/Yn
abbrev pub bs6923 : Edition
bs6923 = record {
  cut = record { over = 8856; under = 1000000 };
  slope = record { over = 7787; under = 1000 };
  light = record { over = 9033; under = 10 };
}

-- whether q = x / w is above the cut, exactly
unfoldable pub above_cut : Edition → (x w : ℕ) → Bool
above_cut e x w = ltb (e.cut.over * w) (x * e.cut.under)

-- f above the cut: the greatest whole number whose cube is at most q times 2 ^ 3n
unfoldable pub f_high : (n x w : ℕ) → ℕ
f_high n x w = root_of 3 (x * 2 ^ (3 * n) / w)

-- f up to the cut: 2 ^ n times (slope q + 16/116), rounded down once. With p / d for slope q that is
-- (116 p + 16 d) / (116 d)
unfoldable pub f_low : (n : ℕ) → Edition → (x w : ℕ) → ℕ
f_low n e x w =
    let p : ℕ = e.slope.over * x in
    let d : ℕ = e.slope.under * w in
    (p * 116 + d * 16) * 2 ^ n / (d * 116)

unfoldable pub f : (n : ℕ) → Edition → (x w : ℕ) → ℕ
f n e x w = cond (above_cut e x w) (f_high n x w) (f_low n e x w)

-- L* = 116 fy - 16 above the cut; otherwise light Y/Yn, rounded down once
unfoldable pub lightness : (n : ℕ) → Edition → (Y Yn : ℕ) → ℕ
lightness n e Y Yn =
    cond (above_cut e Y Yn) (116 * f n e Y Yn - 16 * 2 ^ n) (e.light.over * Y * 2 ^ n / (e.light.under * Yn))

-- a* = 500 (fx - fy), b* = 200 (fy - fz)
unfoldable pub convert : (n : ℕ) → Edition → (white c : TristimulusValues) → Lab
convert n e white c =
    let fx : ℤ = pos (f n e c.X white.X) in
    let fy : ℤ = pos (f n e c.Y white.Y) in
    let fz : ℤ = pos (f n e c.Z white.Z) in
    record { L = lightness n e c.Y white.Y; a = 500 · (fx -ℤ fy); b = 200 · (fy -ℤ fz) }

-- ---- the grid is the unit of 2 ^ -20

-- L*, a* and b* lie in their ranges
unfoldable pub on_grid : GridColour → Bool
on_grid c =
    is_within (range_of Lightness) c.L.0 && is_within (range_of Opponent) c.a.0
    && is_within (range_of Opponent) c.b.0

-- at 20 places a colour is one of the grid
abbrev pub grid_colour : Lab → GridColour
grid_colour c = record { L = record { 0 = pos c.L }; a = record { 0 = c.a }; b = record { 0 = c.b } }

-- a colour of the grid in units of 2 ^ -n, for n from 20 up; L* is not below 0
unfoldable pub at_places : (n : ℕ) → GridColour → Lab
at_places n c =
    let k : ℕ = 2 ^ (n - 20) in
    record { L = k * ∣ c.L.0 ∣; a = k · c.a.0; b = k · c.b.0 }
