-- docs/SCOPE.md 3, 8.2: a reading's place on the grid, or why it is refused. Definitions only: `Placed/Laws.antt`
-- has what callers go by. Assumes nothing.
use Rattle.std.specs.Prelude.{Bool, true, false, ◌&&◌, ◌||◌, cond, ℤ, Float, Result, Ok, Err}
use Rattle.rounding.specs.Signed.{∣◌∣}
use Rattle.reading.specs.Grid.{grid_of}
use Rattle.reading.specs.Reading.{Units, range_of, is_within, float_units, decimal_units}
use Rattle.reading.specs.declared.decimal.Decimal.{Decimal}
use Rattle.reading.specs.declared.quantity.Quantity.{Quantity}
use Rattle.reading.specs.declared.quantity.Quantity.TheVariants.{Tristimulus, Lightness, Opponent}
use Rattle.reading.specs.declared.quantity.ReadError.TheVariants.{NotFinite, OutOfRange}
use Rattle.colour.specs.declared.white.White.{White}
use Rattle.colour.specs.declared.conversion.GridColour.{GridColour}
use Rattle.colour.specs.declared.placed.Space.{Space}
use Rattle.colour.specs.declared.placed.Space.TheVariants as S
use Rattle.colour.specs.declared.placed.Values.{Values}
use Rattle.colour.specs.declared.placed.Values.TheVariants.{Xyz, Lab}
use Rattle.colour.specs.declared.refusal.Refusal.{Refusal}
use Rattle.colour.specs.declared.refusal.Refusal.TheVariants as Why
use Rattle.colour.specs.White.{white_of}
use Rattle.colour.specs.Conversion.{bs6923, convert, grid_colour}
pub mod Ranges
pub mod Same
pub mod Exactly

-- a reading of floats, and one written in decimals
abbrev pub Reading : Type 0
Reading = Values Float

abbrev pub Written : Type 0
Written = Values Decimal

-- a colour on the grid, or why there is none
abbrev pub Placed : Type 0
Placed = Result GridColour Refusal

-- three numbers of a space
abbrev pub in_space : {A : Type 0} → Space → (x y z : A) → Values A
in_space S.Xyz x y z = Xyz x y z
in_space S.Lab x y z = Lab x y z

-- ---- three readings together

abbrev pub is_not_finite : Units → Bool
is_not_finite (Ok z) = false
is_not_finite (Err NotFinite) = true
is_not_finite (Err OutOfRange) = false

-- what refuses three readings of which one has no units: 5 for any that is not finite, then 6
abbrev pub fault : (u v w : Units) → Refusal
fault u v w = cond (is_not_finite u || is_not_finite v || is_not_finite w) Why.NotANumber Why.OutOfRange

-- the units of a reading are handed on; where it has none, e refuses it
abbrev pub hand_on : Units → (e : Refusal) → (ℤ → Placed) → Placed
hand_on (Ok z) e next = next z
hand_on (Err u) e next = Err e

unfoldable pub take : (u v w : Units) → (next : (x y z : ℤ) → Placed) → Placed
take u v w next =
    let e : Refusal = fault u v w in
    hand_on u e (λ x. hand_on v e (λ y. hand_on w e (next x y)))

-- ---- X, Y, Z, and L*, a*, b*

-- X, Y, Z in millionths, which are not below 0, against a white
abbrev pub converted : White → (x y z : ℤ) → GridColour
converted w x y z = grid_colour (convert 20 bs6923 (white_of w) (record { X = ∣ x ∣; Y = ∣ y ∣; Z = ∣ z ∣ }))

-- 8 where a* or b* lies beyond 256 after conversion
unfoldable pub accepted : GridColour → Placed
accepted c = cond (is_within (range_of Opponent) c.a.0 && is_within (range_of Opponent) c.b.0) (Ok c) (Err Why.Beyond256)

abbrev pub place_xyz : White → (x y z : ℤ) → Placed
place_xyz w x y z = accepted (converted w x y z)

-- L*, a*, b* are on the grid
abbrev pub place_lab : (l a b : ℤ) → Placed
place_lab l a b = Ok (record { L = grid_of l; a = grid_of a; b = grid_of b })

-- ---- a reading of floats, and one written in decimals, by the units of a number of the kind

module _ {A : Type 0} (units : Quantity → A → Units) where
  abbrev pub take_xyz : White → (x y z : A) → Placed
  take_xyz w x y z = take (units Tristimulus x) (units Tristimulus y) (units Tristimulus z) (place_xyz w)

  abbrev pub take_lab : (l a b : A) → Placed
  take_lab l a b = take (units Lightness l) (units Opponent a) (units Opponent b) place_lab

  unfoldable pub place_by : White → Values A → Placed
  place_by w (Xyz x y z) = take_xyz w x y z
  place_by w (Lab l a b) = take_lab l a b

abbrev pub place : White → Reading → Placed
place = place_by float_units

abbrev pub place_written : White → Written → Placed
place_written = place_by decimal_units
