-- What is no NaN and neither infinity is a number. Assumes nothing.
use Rattle.std.proofs.Common.{◌≡◌, refl, true, false, not, ◌&&◌}
use Rattle.std.specs.Float.{float_is_finite}
use lib.Ieee.{Float, nan, inf, fin, binary64, of_bits, is_nan, ne}
use Rattle.reading.proofs.float.is_finite.Goals as goal

finite_of_ne :
    (x : Float) →
    (not (is_nan x) && ne x (of_bits binary64 0x7ff0_0000_0000_0000)) && ne x (of_bits binary64 0xfff0_0000_0000_0000)
    ≡ float_is_finite x
unfolding float_is_finite of_bits is_nan ne
finite_of_ne nan = refl
finite_of_ne (inf true) = refl
finite_of_ne (inf false) = refl
finite_of_ne (fin s m e) = refl

pub returns : goal.returns
returns c = rw c.is_nan.ensures.value (finite_of_ne c.args.x)
