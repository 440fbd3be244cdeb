-- A reading of floats and one written in decimals that say the same are placed alike: docs/SCOPE.md 9.2, "The
-- decimal's exact value is read by the same rounding as a float's". Assumes nothing.
use Rattle.std.specs.Prelude.{◌≡◌, refl, false, pos, Float, Err}
use Rattle.std.specs.Float.{fin}
use Rattle.std.specs.Float.Ieee.Exact.{HasValue}
use Rattle.rounding.specs.Root.{root_of}
use Rattle.reading.specs.Reading.{float_units}
use Rattle.reading.proofs.Theorems.Reading.Laws.{float_as_decimal}
use Rattle.reading.specs.declared.decimal.Decimal.{Decimal}
use Rattle.reading.specs.declared.quantity.Quantity.TheVariants.{Tristimulus, Lightness, Opponent}
use Rattle.colour.specs.declared.white.White.{White}
use Rattle.colour.specs.declared.white.White.TheVariants.{D65Ten, D65Two, CTen, CTwo}
use Rattle.colour.specs.Placed.{Reading, Written, take, accepted, place_by, place, place_written}
use Rattle.colour.specs.declared.placed.Values.TheVariants.{Xyz, Lab}
use Rattle.colour.specs.White.{white_of}
use Rattle.colour.specs.Conversion.{above_cut, f_high, f_low, f, lightness, convert}
use Rattle.colour.specs.declared.refusal.Refusal.TheVariants as Why

-- against this white both come to the same colour of the grid, or to the same refusal
abbrev pub PlacedAlike : White → Reading → Written → Type 0
PlacedAlike w r d = place w r ≡ place_written w d

-- ---- the same exact values

-- the float is exactly what the decimal says, sign and all
abbrev pub SameValue : Float → Decimal → Type 0
SameValue x d = HasValue x d.below d.millionths 1000000

-- both in one space, and each of the three floats exactly its decimal
pub data SaysTheSame : Reading → Written → Type 0 where
  xyz :
      {x y z : Float} {p q r : Decimal} → SameValue x p → SameValue y q → SameValue z r →
      SaysTheSame (Xyz x y z) (Xyz p q r)
  lab :
      {l a b : Float} {p q r : Decimal} → SameValue l p → SameValue a q → SameValue b r →
      SaysTheSame (Lab l a b) (Lab p q r)

-- READINGS OF THE SAME VALUE ARE PLACED ALIKE, against every white
pub same_value_same_place : {r : Reading} {d : Written} → SaysTheSame r d → (w : White) → PlacedAlike w r d
unfolding place_by
same_value_same_place (xyz {x} {y} {z} {p} {q} {r} hx hy hz) w =
    rw (float_as_decimal Tristimulus x p hx, float_as_decimal Tristimulus y q hy, float_as_decimal Tristimulus z r hz)
same_value_same_place (lab {l} {a} {b} {p} {q} {r} hl ha hb) w =
    rw (float_as_decimal Lightness l p hl, float_as_decimal Opponent a q ha, float_as_decimal Opponent b r hb)

-- ---- readings that are refused against every white

-- L* = 200
abbrev pub out_of_range : Reading
out_of_range = Lab (fin false 25 (pos 3)) (fin false 0 (pos 0)) (fin false 0 (pos 0))

pub six_in_every_white : (w : White) → place w out_of_range ≡ Err Why.OutOfRange
unfolding place_by take float_units
six_in_every_white w = refl

-- X = 0, Y = 100, Z = 0
abbrev pub beyond_the_grid : Reading
beyond_the_grid = Xyz (fin false 0 (pos 0)) (fin false 25 (pos 2)) (fin false 0 (pos 0))

pub eight_in_every_white : (w : White) → place w beyond_the_grid ≡ Err Why.Beyond256
unfolding place_by take accepted float_units root_of white_of above_cut f_high f_low f lightness convert
eight_in_every_white D65Ten = refl
eight_in_every_white D65Two = refl
eight_in_every_white CTen = refl
eight_in_every_white CTwo = refl
