-- Every f is below 2^21, so a*, b* and L* fit, and each is the definition's. Assumes nothing.
use Rattle.std.proofs.Common.{◌≡◌, ◌∙◌, ℕ, ℤ, pos, ◌-ℤ◌, ◌*ℤ◌, arith, w64, to_z, of_z, rules}
use Rattle.std.proofs.lemmas.Int.{to_z_pos}
use Rattle.colour.specs.declared.conversion.GridColour.{GridColour}
use Rattle.colour.specs.declared.white.TristimulusValues.{TristimulusValues}
use Rattle.colour.specs.Conversion.{bs6923, f, lightness, convert, grid_colour}
use Rattle.colour.proofs.Theorems.Conversion.Laws.{lightness-le}
use Rattle.colour.proofs.conversion.grid_colour.Goals as goal

-- the colour from its parts
convert_is :
    (white c : TristimulusValues) {L a b : ℤ} {l fx fy fz : ℕ} →
    l ≡ lightness 20 bs6923 c.Y white.Y →
    fx ≡ f 20 bs6923 c.X white.X →
    fy ≡ f 20 bs6923 c.Y white.Y →
    fz ≡ f 20 bs6923 c.Z white.Z →
    L ≡ pos l →
    a ≡ pos 500 *ℤ (pos fx -ℤ pos fy) →
    b ≡ pos 200 *ℤ (pos fy -ℤ pos fz) →
    ◌≡◌ {A = GridColour} (record { L = record { 0 = L }; a = record { 0 = a }; b = record { 0 = b } })
    (grid_colour (convert 20 bs6923 white c))
unfolding convert
convert_is white c hl hx hy hz h_l ha hb = cc

pub overflow_cast-result : goal.overflow_cast-result
overflow_cast-result c =
    record { sfits = omega (arith, c.lightness.ensures, lightness-le _ _ c.requires.Y) }

pub returns : goal.returns
returns c =
    let l : to_z w64 c.lightness.result ≡ pos c.lightness.result =
    to_z_pos w64 _ (omega (arith, c.lightness.ensures, lightness-le _ _ c.requires.Y)) in
    let a : to_z w64 (of_z w64 c.opponent_of.result) ≡ c.opponent_of.result = search rules in
    let b : to_z w64 (of_z w64 c.opponent_of-2.result) ≡ c.opponent_of-2.result = search rules in
    convert_is _ _ c.lightness.ensures c.f-fx.ensures c.f-fy.ensures c.f-fz.ensures l
    (a ∙ c.opponent_of.ensures) (b ∙ c.opponent_of-2.ensures)
