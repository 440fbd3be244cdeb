-- docs/SCOPE.md 12.1, cases 1 to 3, by computation, under one theorem: in units of 2 ^ -20, as printed there. No proof
-- cites this. Assumes nothing.
use Rattle.std.specs.Prelude.{◌≡◌, refl, false, pos}
use Rattle.rounding.specs.Root.{root_of}
use Rattle.colour.specs.declared.white.White.TheVariants.{D65Ten}
use Rattle.colour.specs.White.{white_of}
use Rattle.colour.specs.Conversion.{bs6923, above_cut, f_high, f_low, f, lightness, convert}

pub record ConversionCases : Type 0 where
  -- D65/10, X Y Z = the white
  pub case_1 : convert 20 bs6923 (white_of D65Ten) (white_of D65Ten) ≡ record { L = 104857600; a = pos 0; b = pos 0 }
  -- all zero
  pub case_2 :
      convert 20 bs6923 (white_of D65Ten) (record { X = 0; Y = 0; Z = 0 }) ≡ record { L = 0; a = pos 0; b = pos 0 }
  -- Yn = 100, Y = 0.885600: low branch
  pub case_3 : (above_cut bs6923 885600 100000000 ≡ false) × (lightness 20 bs6923 885600 100000000 ≡ 8388214)

pub conversion_cases : ConversionCases
unfolding root_of white_of above_cut f_high f_low f lightness convert
conversion_cases = record { case_1 = refl; case_2 = refl; case_3 = (refl, refl) }
