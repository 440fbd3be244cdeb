-- docs/SCOPE.md 13.7: its five deliveries, by computation, under one theorem. In units of 2 ^ -20, as printed there;
-- l = c = 1. No proof cites this. Assumes nothing.
use Rattle.std.specs.Prelude.{◌≡◌, refl, List, [], ◌∷◌, ℕ, ◌*◌, ◌^◌, ℤ, pos, neg_ℤ}
use Rattle.rounding.specs.Root.{root_of}
use Rattle.rounding.specs.Signed.{◌÷◌}
use Rattle.rounding.specs.Mean.{sum}
use Rattle.reading.specs.Grid.{grid_of}
use Rattle.colour.specs.White.{white_of}
use Rattle.colour.specs.Conversion.{bs6923, above_cut, f_high, f_low, f, lightness, convert, grid_colour, at_places}
use Rattle.colour.specs.declared.conversion.GridColour.{GridColour}
use Rattle.colour.specs.declared.white.White.TheVariants.{D65Ten}
use Rattle.sheet.specs.Sheet.{chroma, distance², cross, dot, same_hue, hue_change, semi_axis_l, semi_axis_c, second_form}
use Rattle.sheet.specs.Sheet.{component, component_h, total, hue_semi_axis, semi_axes_cmc, semi_axes, shift}
use Rattle.sheet.specs.Sheet.{differences as of_pair, sheet}
use Rattle.delivery.specs.Delivery.{mean_colour, difference_from, differences}
use Rattle.delivery.specs.Farthest.{farther_of, farthest_from, farthest}

abbrev minus : ℕ → ℤ
minus n = neg_ℤ (pos n)

abbrev lab : (L a b : ℤ) → GridColour
lab L a b = record { L = grid_of L; a = grid_of a; b = grid_of b }

abbrev grey : ℕ → GridColour
grey L = lab (pos (L * 2 ^ 20)) (pos 0) (pos 0)

-- X, Y, Z in millionths, by D65/10
abbrev of : (X Y Z : ℕ) → GridColour
of X Y Z = grid_colour (convert 20 bs6923 (white_of D65Ten) (record { X = X; Y = Y; Z = Z }))

abbrev black_and_white : List GridColour
black_and_white = of 0 0 0 ∷ of 94811000 100000000 107304000 ∷ []

abbrev DEs : List GridColour → List ℕ
DEs cs = differences 1000 1000 cs

pub record DeliveryCases : Type 0 where
  -- X, Y, Z of half the white are another colour
  pub case_1 :
      (mean_colour black_and_white ≡ grey 50) × (of 47405500 50000000 53652000 ≡ lab (pos 79764364) (pos 0) (pos 0))
      × (DEs black_and_white ≡ 48174371 ∷ 48174371 ∷ []) × ((farthest (DEs black_and_white)).at ≡ 0)
  pub case_2 :
      mean_colour (lab (pos 0) (minus 1) (pos 1) ∷ lab (pos 1) (minus 2) (pos 2) ∷ []) ≡ lab (pos 1) (minus 2) (pos 2)
  pub case_3 :
      mean_colour
      (lab (pos 1) (pos 1) (minus 1) ∷ lab (pos 1) (pos 2) (minus 1) ∷ lab (pos 2) (pos 2) (minus 2) ∷ [])
      ≡ lab (pos 1) (pos 2) (minus 1)
  pub case_4 :
      (mean_colour (grey 50 ∷ grey 49 ∷ grey 51 ∷ []) ≡ grey 50)
      × (DEs (grey 50 ∷ grey 49 ∷ grey 51 ∷ []) ≡ 0 ∷ 963487 ∷ 963487 ∷ [])
      × ((farthest (DEs (grey 50 ∷ grey 49 ∷ grey 51 ∷ []))).at ≡ 1)
  -- by their own semi-axes the two would not be as far
  pub case_5 :
      (DEs (grey 10 ∷ grey 60 ∷ []) ≡ 29570913 ∷ 29570913 ∷ [])
      × (difference_from 1000 1000 (grey 10) (grey 35) ≡ 51300227)
      × (difference_from 1000 1000 (grey 60) (grey 35) ≡ 21954630)

pub delivery_cases : DeliveryCases
unfolding root_of ◌÷◌ sum chroma distance² cross dot same_hue hue_change semi_axis_l semi_axis_c second_form component
    component_h total hue_semi_axis semi_axes_cmc semi_axes shift of_pair sheet white_of above_cut f_high f_low f lightness convert
    at_places mean_colour difference_from farther_of farthest_from
delivery_cases = record {
  case_1 = (refl, refl, refl, refl);
  case_2 = refl;
  case_3 = refl;
  case_4 = (refl, refl, refl);
  case_5 = (refl, refl, refl);
}
