-- The sheet's own names keep within what `Printable` allows a report: which go with no minus, and that a hue's bracket
-- is another axis than its name. Assumes nothing.
use Rattle.std.proofs.Math.Path.{◌≡◌}
use Rattle.std.specs.Prelude.{refl, Bool, ℕ, ◌*◌, ◌/◌, ◌^◌, ℤ, pos}
use Rattle.std.proofs.Math.Bool.{true, false, cond}
use Rattle.std.proofs.Common.{zero-le, le-ltb}
use native.Mathlib.Omega.{arith}
use Rattle.std.specs.Int.Signed.{lt_z}
use Rattle.rounding.specs.Signed.{∣◌∣, minus}
use Rattle.rounding.proofs.Theorems.Signed.Laws.{quotient_is}
use Rattle.colour.specs.declared.conversion.GridColour.{GridColour}
use Rattle.sheet.specs.Sheet.{same_hue, component}
use Rattle.names.specs.Names.{lightness_name, chroma_name, first_met, next_met, hue_named, hue_name}
use Rattle.names.proofs.Theorems.Names.Laws.{turn, next-turn}
use Rattle.names.specs.declared.Lightness.TheVariants as L
use Rattle.names.specs.declared.Chroma.TheVariants as C
use Rattle.names.specs.declared.Axis.{Axis}
use Rattle.names.specs.declared.Axis.TheVariants.{Redder, Yellower, Greener, Bluer}
use Rattle.names.specs.declared.Hue.TheVariants as H

-- line 8 keeps the sign
pub not_minus_component : (l S : ℕ) (Δ : ℤ) → minus Δ ≡ false → minus (component 20 l S Δ) ≡ false
unfolding component
not_minus_component l S Δ h =
    rw (quotient_is (1000 * 2 ^ 20) (l * S) Δ (omega arith), h) (le-ltb (1000 * 2 ^ 20 * ∣ Δ ∣ / (l * S)) 0 zero-le)

-- lighter, and equal, are said of no minus
pub not_minus_of_lighter : (ΔL : ℤ) → lightness_name ΔL ≡ L.Lighter → minus ΔL ≡ false
not_minus_of_lighter ΔL = go (minus ΔL)
  where
    go : (b : Bool) → cond b L.Darker (cond (lt_z (pos 0) ΔL) L.Lighter L.Equal) ≡ L.Lighter → b ≡ false
    go true e = let no : ◌≡◌ {A = ℕ} 0 1 = cc in absurd (omega arith)
    go false e = refl

pub not_minus_of_equal : (ΔC : ℤ) → chroma_name ΔC ≡ C.Equal → minus ΔC ≡ false
not_minus_of_equal ΔC = go (minus ΔC)
  where
    go : (b : Bool) → cond b C.Less (cond (lt_z (pos 0) ΔC) C.More C.Equal) ≡ C.Equal → b ≡ false
    go true e = let no : ◌≡◌ {A = ℕ} 0 1 = cc in absurd (omega arith)
    go false e = refl

-- a quarter turn leads to another axis
turn_moves : (clockwise : Bool) (axis : Axis) → axis ≡ turn clockwise axis → ⊥
turn_moves false Redder e = let no : ◌≡◌ {A = ℕ} 0 1 = cc in omega arith
turn_moves false Yellower e = let no : ◌≡◌ {A = ℕ} 0 1 = cc in omega arith
turn_moves false Greener e = let no : ◌≡◌ {A = ℕ} 0 1 = cc in omega arith
turn_moves false Bluer e = let no : ◌≡◌ {A = ℕ} 0 1 = cc in omega arith
turn_moves true Redder e = let no : ◌≡◌ {A = ℕ} 0 1 = cc in omega arith
turn_moves true Yellower e = let no : ◌≡◌ {A = ℕ} 0 1 = cc in omega arith
turn_moves true Greener e = let no : ◌≡◌ {A = ℕ} 0 1 = cc in omega arith
turn_moves true Bluer e = let no : ◌≡◌ {A = ℕ} 0 1 = cc in omega arith

-- a bracket is not its name
module _ (x y a b : ℤ) (name bracket : Axis) where
  bracket_differs_by : hue_named x y a b ≡ H.Towards name bracket → name ≡ bracket → ⊥
  unfolding hue_named
  bracket_differs_by = go (same_hue x y) (first_met (minus x) a b)
    where
      go :
          (same : Bool) (first : Axis) → cond same H.Equal (H.Towards first (next_met (minus x) first))
          ≡ H.Towards name bracket → name ≡ bracket → ⊥
      go true first e f = let no : ◌≡◌ {A = ℕ} 0 1 = cc in omega arith
      go false first e f = turn_moves (minus x) first (cc (next-turn (minus x) first))

pub bracket-differs :
    (R T : GridColour) (name bracket : Axis) → hue_name R T ≡ H.Towards name bracket → name ≡ bracket → ⊥
unfolding hue_name
bracket-differs R T name bracket = bracket_differs_by _ _ _ _ name bracket
