-- A field of 0 is a number of fewer digits at the lowest power; any other has the digit that is not written, 2 ^ 52.
-- Assumes nothing.
use Rattle.std.proofs.Common.{◌^◌, ◌<◌, T, refl, inl, inr, arith, rules}
use lib.Bits.{bit_and, mask_lt}
use lib.Ieee.{Float, binary64, fits, to_bits}
use Rattle.reading.proofs.FromBits.{not_nan_of_finite, low_value, high_value}
use Rattle.reading.proofs.float.parts_of.Goals as goal

few : (x : Float) → bit_and (to_bits binary64 x) 0xf_ffff_ffff_ffff < 2 ^ 52
few x = mask_lt (to_bits binary64 x) 52

pub float_to_bits-bits : goal.float_to_bits-bits
float_to_bits-bits c = not_nan_of_finite c.args.x c.requires

pub returns-then-field-eq0 : goal.returns-then-field-eq0
returns-then-field-eq0 c =
    let x = c.args.x in
    let fit : T (fits binary64 x) = search rules in
    record { value = low_value x fit c.if-field-eq0.true; few = omega (arith, few x); full = inl refl }

pub returns-else-field-eq0 : goal.returns-else-field-eq0
returns-else-field-eq0 c =
    let x = c.args.x in
    let fit : T (fits binary64 x) = search rules in
    record {
      value = high_value x fit c.requires c.if-field-eq0.false;
      few = omega (arith, few x);
      full = inr (omega (arith, few x));
    }
