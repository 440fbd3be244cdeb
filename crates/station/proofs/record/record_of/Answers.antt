-- `record::record_of` meets its contract: the bytes are the definition's, one by one. A number below zero in 64 bits
-- ends as in 32. Assumes nothing.
use Rattle.std.proofs.Common.{◌≡◌, refl, sym, ap, le-ltb, ℕ, suc, ◌+◌, ◌-◌, ◌*◌, ◌/◌, ◌%◌, ℤ, pos, negsuc, FitsSigned, arith}
use Rattle.std.specs.Int.{cast_unsigned, w64}
use Rattle.std.proofs.Math.Facts.{to_z-of_z}
use Rattle.station.specs.Record.{le4, twos_of, record_of}
use Rattle.station.specs.Record.Laws.{twos_of_not_below}
use Rattle.station.proofs.record.record_of.Goals as goal

-- k * 2 ^ 32 + t ends with the bytes of t
le4_above : (k t : ℕ) → le4 (k * 4294967296 + t) ≡ le4 t
le4_above k t =
    let second : (k * 4294967296 + t) / 256 % 256 ≡ t / 256 % 256 = omega arith in
    let third : (k * 4294967296 + t) / 65536 % 256 ≡ t / 65536 % 256 = omega arith in
    let fourth : (k * 4294967296 + t) / 16777216 % 256 ≡ t / 16777216 % 256 = omega arith in
    let first : (k * 4294967296 + t) % 256 ≡ t % 256 = omega arith in
    cc

le4_twos : (z : ℤ) → FitsSigned w64 z → le4 (cast_unsigned w64 z) ≡ le4 (twos_of z)
unfolding twos_of
le4_twos (pos n) h = ap le4 (sym (twos_of_not_below (pos n) (le-ltb n 0 (omega arith))))
le4_twos (negsuc n) h =
    let k : ℕ = 4294967295 - suc n / 4294967296 in
    let is : cast_unsigned w64 (negsuc n) ≡ k * 4294967296 + (4294967296 - suc n % 4294967296) = omega (arith, h) in
    rw (is, le4_above k (4294967296 - suc n % 4294967296)) refl

same_record :
    (f w l c t : ℕ) (L a b : ℤ) → FitsSigned w64 L → FitsSigned w64 a → FitsSigned w64 b →
    record_of f w l c t (cast_unsigned w64 L) (cast_unsigned w64 a) (cast_unsigned w64 b)
    ≡ record_of f w l c t (twos_of L) (twos_of a) (twos_of b)
unfolding record_of
same_record f w l c t L a b L_fits a_fits b_fits = cc (le4_twos L L_fits, le4_twos a a_fits, le4_twos b b_fits)

pub returns : goal.returns
unfolding record_of
returns c =
    rw (
      c.to_le_bytes.ensures,
      c.to_le_bytes-2.ensures,
      c.to_le_bytes-3.ensures,
      c.to_le_bytes-4.ensures,
      c.to_le_bytes-5.ensures,
      c.to_le_bytes-6.ensures,
      c.to_le_bytes-7.ensures,
      c.to_le_bytes-8.ensures,
      to_z-of_z c.ranges.lightness,
      to_z-of_z c.ranges.a,
      to_z-of_z c.ranges.b,
    )
    (same_record _ _ _ _ _ c.args.lightness c.args.a c.args.b c.ranges.lightness c.ranges.a c.ranges.b)
