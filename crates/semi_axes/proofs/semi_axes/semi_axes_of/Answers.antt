-- `semi_axes::semi_axes_of` meets its contract: a formula a call, on the colour itself (`at_places_20`).
-- Assumes nothing.
use Rattle.std.proofs.Common.{◌≡◌, ap, ◌∙◌}
use Rattle.std.specs.Prelude.{ℤ}
use Rattle.rounding.specs.Signed.{∣◌∣}
use Rattle.colour.proofs.Theorems.Conversion.Places.{at_places_20}
use Rattle.sheet.specs.Sheet.{semi_axes}
use Rattle.sheet.proofs.Fits.{L_back}
use Rattle.semi_axes.proofs.semi_axes.semi_axes_of.Goals as goal

pub returns-in-CIELAB : goal.returns-in-CIELAB
unfolding semi_axes
returns-in-CIELAB c =
    rw (c.in-CIELAB.is, at_places_20 c.args.r)
    (rw (c.of-p.ensures.a, c.of-p.ensures.b) at c.semi_axes_cielab.ensures)

pub returns-in-CIE94 : goal.returns-in-CIE94
unfolding semi_axes
returns-in-CIE94 c =
    rw (c.in-CIE94.is, at_places_20 c.args.r)
    (rw (c.of-p.ensures.a, c.of-p.ensures.b) at c.semi_axes_cie94.ensures)

pub returns-in-CMC : goal.returns-in-CMC
unfolding semi_axes
returns-in-CMC c =
    let lightness_is : c.magnitude.result ≡ ∣ c.args.r.L.0 ∣ =
    c.magnitude.ensures ∙ ap (λ (z : ℤ). ∣ z ∣) (L_back c.requires) in
    rw (c.in-CMC.is, at_places_20 c.args.r)
    (rw (lightness_is, c.of-p.ensures.a, c.of-p.ensures.b) at c.semi_axes_cmc.ensures)
