-- docs/SCOPE.md 7: how the test specimen differs from the reference, in words, and where a report withholds them. The
-- hue's name is the rule of turning itself; `Names/Laws.antt` shows that the signs of a and b tell which axis is met,
-- and that it is always just one. `Names/Withheld.antt` has what is withheld as an equivalence, `Names/Cases.antt` has
-- pairs at its ends. Assumes nothing.
use Rattle.std.specs.Prelude.{Bool, true, false, not, cond, ◌&&◌, ◌||◌, ◌+◌, ◌*◌, ◌^◌, leb, ℤ, pos, neg_ℤ}
use Rattle.std.specs.Int.Signed.{lt_z}
use Rattle.rounding.specs.Signed.{square, minus}
use Rattle.colour.specs.declared.conversion.GridColour.{GridColour}
use Rattle.sheet.specs.Sheet.{same_hue, cross, dot, cross_of, dot_of}
use Rattle.sheet.specs.declared.formula.Formula.{Formula}
use Rattle.sheet.specs.declared.formula.Formula.TheVariants.{CIELAB, CIE94, CMC}
use Rattle.names.specs.declared.Lightness as Lightness
use Rattle.names.specs.declared.Chroma as Chroma
use Rattle.names.specs.declared.Axis.{Axis}
use Rattle.names.specs.declared.Axis.TheVariants.{Redder, Yellower, Greener, Bluer}
use Rattle.names.specs.declared.Hue as Hue

-- ---- lightness and chroma

-- by the sign of ΔL
abbrev pub lightness_name : (ΔL : ℤ) → Lightness.Lightness
lightness_name ΔL =
    cond (minus ΔL) Lightness.TheVariants.Darker
    (cond (lt_z (pos 0) ΔL) Lightness.TheVariants.Lighter Lightness.TheVariants.Equal)

-- by the sign of ΔC
abbrev pub chroma_name : (ΔC : ℤ) → Chroma.Chroma
chroma_name ΔC =
    cond (minus ΔC) Chroma.TheVariants.Less (cond (lt_z (pos 0) ΔC) Chroma.TheVariants.More Chroma.TheVariants.Equal)

-- ---- hue

-- where an axis points in the a*b* plane: redder to 0 degrees, yellower to 90, greener to 180, bluer to 270
pub record Direction : Type 0 where
  pub a : ℤ
  pub b : ℤ

abbrev pub direction : Axis → Direction
direction Redder = record { a = pos 1; b = pos 0 }
direction Yellower = record { a = pos 0; b = pos 1 }
direction Greener = record { a = neg_ℤ (pos 1); b = pos 0 }
direction Bluer = record { a = pos 0; b = neg_ℤ (pos 1) }

-- turning from (a, b), the axis is met after more than 0 and at most 90 degrees: the cross with it has the turn's sign,
-- and the dot is not negative. The axis that (a, b) stands on has the cross 0, and is not met
unfoldable pub met : (clockwise : Bool) (a b : ℤ) → Axis → Bool
met false a b axis =
    lt_z (pos 0) (cross a b (direction axis).a (direction axis).b)
    && not (minus (dot a b (direction axis).a (direction axis).b))
met true a b axis =
    minus (cross a b (direction axis).a (direction axis).b)
    && not (minus (dot a b (direction axis).a (direction axis).b))

-- the axes are a quarter turn apart, so from any (a, b) but (0, 0) just one is met within the first quarter: it is the
-- first of all
unfoldable pub first_met : (clockwise : Bool) (a b : ℤ) → Axis
first_met clockwise a b =
    cond (met clockwise a b Redder) Redder
    (cond (met clockwise a b Greener) Greener (cond (met clockwise a b Bluer) Bluer Yellower))

-- the next is the first that a turn from that axis meets
abbrev pub next_met : (clockwise : Bool) → Axis → Axis
next_met clockwise axis = first_met clockwise (direction axis).a (direction axis).b

-- by the cross and the dot: equal in the same hue; otherwise turn from the reference's (a, b), anticlockwise for plus
-- and clockwise for minus. The first axis met gives the name, the next the bracket
unfoldable pub hue_named : (cross dot a b : ℤ) → Hue.Hue
hue_named cross dot a b =
    let first : Axis = first_met (minus cross) a b in
    cond (same_hue cross dot) Hue.TheVariants.Equal (Hue.TheVariants.Towards first (next_met (minus cross) first))

-- of two colours of the grid
unfoldable pub hue_name : (R T : GridColour) → Hue.Hue
hue_name R T = hue_named (cross_of R T) (dot_of R T) R.a.0 R.b.0

-- ---- achromatic, and withheld

-- a specimen has a² + b² at most 16, tested exactly: in grid units, of which one has 2 ^ 20
unfoldable pub achromatic : GridColour → Bool
achromatic X = leb (square X.a.0 + square X.b.0) (16 * (2 ^ 20 * 2 ^ 20))

-- under CMC a report withholds DC, DH and their names where the reference or the test specimen is achromatic
abbrev pub withheld_by : Formula → (R T : GridColour) → Bool
withheld_by CIELAB R T = false
withheld_by CIE94 R T = false
withheld_by CMC R T = achromatic R || achromatic T
