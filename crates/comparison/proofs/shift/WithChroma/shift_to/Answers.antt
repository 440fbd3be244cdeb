-- `WithChroma::shift_to` meets its contract: a colour of the grid at 20 places is the colour itself. Assumes nothing.
use Rattle.std.proofs.Common.{◌≡◌, ℕ, ℤ, ◌^◌, ◌<◌, w64, to_z, of_z, arith, rules}
use Rattle.rounding.specs.Signed.{∣◌∣}
use Rattle.colour.specs.declared.conversion.GridColour.{GridColour}
use Rattle.colour.specs.Conversion.{at_places}
use Rattle.colour.specs.Conversion.Ranges.{OnGrid}
use Rattle.colour.proofs.Theorems.Conversion.Places.{at_places_20}
use Rattle.sheet.specs.declared.shift.Shift.{Shift}
use Rattle.sheet.specs.Sheet.{chroma_of, distance², change, cross_of, dot_of, hue_change, shift}
use Rattle.sheet.proofs.Theorems.Sheet.Laws.{change-le}
use Rattle.sheet.proofs.Theorems.Sheet.Bounds.{chroma_of-lt}
use Rattle.comparison.proofs.shift.WithChroma.shift_to.Goals as goal

small : (c : GridColour) {C : ℕ} → OnGrid c → C ≡ chroma_of (at_places 20 c) → C < 2 ^ 29
small c h is = rw is (chroma_of-lt h)

-- the shift from its parts
shift_is :
    (r t : GridColour) {C_r C_t : ℕ} {ΔL ΔC ΔH : ℤ} →
    C_r ≡ chroma_of (at_places 20 r) →
    C_t ≡ chroma_of (at_places 20 t) →
    ΔL ≡ change ∣ r.L.0 ∣ ∣ t.L.0 ∣ →
    ΔC ≡ change C_r C_t →
    ΔH ≡ hue_change (distance² r.a.0 r.b.0 t.a.0 t.b.0) ΔC (cross_of r t) (dot_of r t) →
    ◌≡◌ {A = Shift} (record { L = ΔL; C = ΔC; H = ΔH }) (shift (at_places 20 r) (at_places 20 t))
unfolding shift
shift_is r t hr ht hl hc hh = rw (hh, hl, hc, hr, ht, at_places_20 r, at_places_20 t)

pub change_of-dc-requires : goal.change_of-dc-requires
change_of-dc-requires c =
    let r = c.args.self in
    let t = c.args.t in
    let C_r = small r.colour r.on_grid r.is_chroma in
    let C_t = small t.colour t.on_grid t.is_chroma in
    (omega (arith, C_r, C_t), omega (arith, C_r, C_t))

pub hue_change-dh-requires : goal.hue_change-dh-requires
hue_change-dh-requires c =
    let r = c.args.self in
    let t = c.args.t in
    let is : to_z w64 (of_z w64 c.change_of-dc.result) ≡ change r.C t.C = search rules in
    rw is
    (change-le (2 ^ 31) {R = r.C} {T = t.C} (omega (arith, small r.colour r.on_grid r.is_chroma))
    (omega (arith, small t.colour t.on_grid t.is_chroma)))

pub returns : goal.returns
returns c =
    let r = c.args.self in
    let t = c.args.t in
    shift_is r.colour t.colour r.is_chroma t.is_chroma (search rules) (search rules) (search rules)
