-- docs/SCOPE.md 13: what a sort answers, and what it leaves in the lent slice. Assumes nothing.
use Rattle.std.specs.Prelude.{◌≡◌, Bool, not, ◌&&◌, List, [], ◌∷◌, map, ℕ, ◌≤◌, leb, Float, pos, length}
use Rattle.std.specs.Prelude.{Option, Some, None}
use Rattle.reading.specs.Grid.{value_of}
use Rattle.colour.specs.Refusal.{number_of_refusal, refusal_numbered}
use Rattle.colour.specs.White.{white_numbered}
use Rattle.colour.specs.declared.conversion.GridColour.{GridColour}
use Rattle.colour.specs.Placed.{Reading}
use Rattle.colour.specs.declared.refusal.Refusal.{Refusal}
use Rattle.colour.specs.declared.white.White.{White}
use Rattle.sheet.specs.Settings.{within, is_factor, Factor}
use Rattle.cones.specs.Zip.{Even, is_even}
use Rattle.cones.specs.InTurn.{Turns, whole, refused, number_of}
use Rattle.cones.specs.Cones.{readings_of, cones_in}
use Rattle.colour.specs.declared.placed.Space.{Space}
use Rattle.standard.specs.Acceptance.{no_white}
use Rattle.standard.specs.Figures.{zero}
use Rattle.standard.specs.Refusals.{Fault, fault, refusal, at_count, at_white, at_l, at_c, at_test}
use Rattle.delivery.specs.declared.sorted.Sorted.{Sorted}
use Rattle.delivery.specs.Delivery.{mean_colour, differences}
use Rattle.delivery.specs.Farthest.{farthest}
use Rattle.delivery.specs.Written.{written}

-- ---- refusals: 11, 2, 3 for l, 3 for c, then each cone in turn

-- 2 to 256 cones, as many in each list, and an entry of the result for each
unfoldable pub is_shaped : (xs ys zs : List Float) (room : ℕ) → Bool
is_shaped xs ys zs room = within 2 256 (length xs) && leb (length xs) room && is_even xs ys zs

pub record Shaped (xs ys zs : List Float) (room : ℕ) : Type 0 where
  pub some : 2 ≤ length xs
  pub few : length xs ≤ 256
  pub enough : length xs ≤ room
  pub even : Even xs ys zs

unfoldable pub are_factors : (l c : ℕ) → Bool
are_factors l c = is_factor l && is_factor c

abbrev pub call_faults : (shaped : Bool) (white l c : ℕ) → List Fault
call_faults shaped white l c =
    fault at_count 11 (not shaped) ∷ fault at_white 2 (no_white (white_numbered white)) ∷ fault at_l 3 (not (is_factor l))
    ∷ fault at_c 3 (not (is_factor c)) ∷ []

-- where there is no such white, there is none to read in
abbrev pub cones_numbered : Option White → List Reading → Turns GridColour
cones_numbered (Some w) rs = cones_in w rs
cones_numbered None rs = whole []

-- all faults: the first refused cone's stands at the test specimen's place
unfoldable pub sort_faults : (shaped : Bool) (white l c : ℕ) → List Reading → List Fault
sort_faults shaped white l c rs =
    record { place = at_test; number = number_of (cones_numbered (white_numbered white) rs) } ∷ call_faults shaped white l c

-- where the call is refused no cone's turn comes
abbrev pub refused_before : Option Refusal → Turns GridColour → Turns GridColour
refused_before (Some e) t = refused e 0
refused_before None t = t

-- the colours of all cones, or the first refusal with the refused cone
unfoldable pub delivered : (shaped : Bool) (white l c : ℕ) → List Reading → Turns GridColour
delivered shaped white l c rs =
    refused_before (refusal_numbered (refusal (call_faults shaped white l c))) (cones_numbered (white_numbered white) rs)

-- ---- what is handed back

-- a refusal, with the cone that it is of
abbrev pub refused_with : (number cone : ℕ) → Sorted
refused_with n i = record { number = n; cone = i; lightness = zero; a = zero; b = zero; farthest = 0; cones = 0 }

module _ (l c : ℕ) where
  unfoldable pub sorted_of : List GridColour → Sorted
  sorted_of cs =
      let M : GridColour = mean_colour cs in
      record {
        number = 0;
        cone = 0;
        lightness = value_of M.L.0;
        a = value_of M.a.0;
        b = value_of M.b.0;
        farthest = (farthest (differences l c cs)).at;
        cones = length cs;
      }

  abbrev pub answer_of : Turns GridColour → Sorted
  answer_of (whole cs) = sorted_of cs
  answer_of (refused e i) = refused_with (number_of_refusal e) i

  -- DE of each cone as a float
  abbrev pub figures : List GridColour → List Float
  figures cs = map (λ (d : ℕ). value_of (pos d)) (differences l c cs)

  -- each cone's from the start of the lent list, the rest kept; a refusal leaves all of it
  abbrev pub left_in : List Float → Turns GridColour → List Float
  left_in de (whole cs) = written (figures cs) de
  left_in de (refused e i) = de

-- the answer r and the list ys afterwards are those of what the delivery came to
pub record Gives (l c : ℕ) (t : Turns GridColour) (de : List Float) (r : Sorted) (ys : List Float) : Type 0 where
  pub answer : r ≡ answer_of l c t
  pub left : ys ≡ left_in l c de t

-- ---- the calls

module _ (k : Space) (white l c : ℕ) (xs ys zs : List Float) where
  -- THE CALL
  abbrev pub sort_call : (room : ℕ) → Turns GridColour
  sort_call room = delivered (is_shaped xs ys zs room) white l c (readings_of k xs ys zs)

  abbrev pub Sorts : (de : List Float) (r : Sorted) (left : List Float) → Type 0
  Sorts de r left = Gives l c (sort_call (length de)) de r left

-- what was tested before the cones
pub record CallIn (l c : ℕ) (xs ys zs de : List Float) : Type 0 where
  pub shape : Shaped xs ys zs (length de)
  pub lightness : Factor l
  pub chroma : Factor c

-- the same of their readings
pub record ReadIn (l c : ℕ) (rs : List Reading) (de : List Float) : Type 0 where
  pub some : 2 ≤ length rs
  pub few : length rs ≤ 256
  pub enough : length rs ≤ length de
  pub lightness : Factor l
  pub chroma : Factor c

abbrev pub SortsIn : White → (l c : ℕ) → List Reading → (de : List Float) (r : Sorted) (left : List Float) → Type 0
SortsIn w l c rs de r left = Gives l c (cones_in w rs) de r left
