-- The slice of figures as the code writes it. Assumes nothing.
use Rattle.std.specs.Prelude.{◌≡◌, List, map, ℕ, ◌≤◌, Float, pos, length}
use Rattle.rounding.specs.Every.{Every}
use Rattle.reading.specs.Grid.{value_of}
use Rattle.colour.specs.Conversion.Ranges.{OnGrid}
use Rattle.colour.specs.declared.conversion.GridColour.{GridColour}
use Rattle.sheet.specs.Settings.{Factor}
use Rattle.delivery.specs.declared.farthest.Far.{Far}
use Rattle.delivery.specs.Farthest.{farthest}
use Rattle.delivery.specs.Written.{written}

-- a delivery of n cones of which none is refused, their colours cs and a mean, and a slice with an entry for each
pub record Room (l c : ℕ) (M : GridColour) (n : ℕ) (cs : List GridColour) (de : List Float) : Type 0 where
  pub count : length cs ≡ n
  pub few : n ≤ 256
  pub enough : n ≤ length de
  pub lightness : Factor l
  pub chroma : Factor c
  pub mean : OnGrid M
  pub colours : Every OnGrid cs

-- the farthest of these DE, and each as a float from the start of the slice
pub record Figures (ds : List ℕ) (de : List Float) (f : Far) (left : List Float) : Type 0 where
  pub far : f ≡ farthest ds
  pub written : left ≡ written (map (λ (d : ℕ). value_of (pos d)) ds) de
