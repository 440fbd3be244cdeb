-- docs/SCOPE.md 1.2, 8.2: what a load takes, and what it is refused for. What it accepts is a standard.
-- Assumes nothing.
use Rattle.std.specs.Prelude.{◌≡◌, Bool, true, false, not, List, [], ◌∷◌, ℕ, Result, Ok, Err, Option, Some, None}
use Rattle.colour.specs.Refusal.{refusal_of, refusal_numbered, refused_by}
use Rattle.colour.specs.Conversion.Ranges.{OnGrid}
use Rattle.colour.specs.White.{white_numbered}
use Rattle.colour.specs.declared.conversion.GridColour.{GridColour}
use Rattle.colour.specs.Placed.{Placed}
use Rattle.colour.specs.declared.white.White.{White}
use Rattle.sheet.specs.Settings.{formula_numbered, is_factor, is_tolerance, Factor, Tolerance}
use Rattle.sheet.specs.declared.formula.Formula.{Formula}
use Rattle.sheet.specs.declared.settings.Settings.{Settings}
use Rattle.standard.specs.declared.accept.LoadNumbers.{LoadNumbers}
use Rattle.standard.specs.declared.accept.Standard.{Standard}
use Rattle.colour.specs.declared.refusal.Refusal.{Refusal}
use Rattle.colour.specs.declared.refusal.Refusal.TheVariants as Why
use Rattle.standard.specs.Refusals.{Place, Fault, fault, refusal, at_formula, at_white, at_l, at_c, at_tolerance}
use Rattle.standard.specs.Refusals.{at_reference}

-- ---- settings by the numbers of a load: 1, then 2, where a number names nothing (`named-number`: in the one order)

abbrev pub no_formula : Option Formula → Bool
no_formula (Some f) = false
no_formula None = true

abbrev pub no_white : Option White → Bool
no_white (Some w) = false
no_white None = true

abbrev pub number_faults : Option Formula → Option White → List Fault
number_faults f w = fault at_formula 1 (no_formula f) ∷ fault at_white 2 (no_white w) ∷ []

abbrev pub named : Option Formula → Option White → (l c tolerance : ℕ) → Result Settings Refusal
named (Some f) (Some w) l c tolerance = Ok (record { formula = f; white = w; l = l; c = c; tolerance = tolerance })
named (Some f) None l c tolerance = Err Why.White
named None w l c tolerance = Err Why.Formula

unfoldable pub settings_of : (formula white l c tolerance : ℕ) → Result Settings Refusal
settings_of formula white l c tolerance = named (formula_numbered formula) (white_numbered white) l c tolerance

-- by those that a load gives
abbrev pub settings_by : LoadNumbers → Result Settings Refusal
settings_by n = settings_of n.formula n.white n.l n.c n.tolerance

-- ---- settings and a reference: 3 for l, 3 for c, 4, then the reference's 5, 6 or 8

unfoldable pub range_faults : (l c tolerance : ℕ) → List Fault
range_faults l c tolerance =
    fault at_l 3 (not (is_factor l)) ∷ fault at_c 3 (not (is_factor c)) ∷ fault at_tolerance 4 (not (is_tolerance tolerance))
    ∷ []

-- that of a reading, at its place in the order
abbrev pub reading_fault : Place → Placed → Fault
reading_fault p r = record { place = p; number = refusal_of r }

unfoldable pub accept_faults : Settings → (reference : Placed) → List Fault
accept_faults s reference = reading_fault at_reference reference ∷ range_faults s.l s.c s.tolerance

-- what settings and a reference come to
abbrev pub Acceptance : Type 0
Acceptance = Result Standard Refusal

-- with no fault the reference is placed
abbrev pub accepted : Settings → (reference : Placed) → Acceptance
accepted s (Ok c) = Ok (record { settings = s; colour = c })
accepted s (Err e) = Err e

unfoldable pub acceptance : Settings → (reference : Placed) → Acceptance
acceptance s reference =
    refused_by (refusal_numbered (refusal (accept_faults s reference))) (accepted s reference)

-- ---- every number of a standard lies in its range

pub record Valid (s : Standard) : Type 0 where
  pub l : Factor s.settings.l
  pub c : Factor s.settings.c
  pub tolerance : Tolerance s.settings.tolerance
  pub colour : OnGrid s.colour

abbrev pub ValidIn : Acceptance → Type 0
ValidIn a = (s : Standard) → a ≡ Ok s → Valid s

-- a reading that is placed lies on the grid
abbrev pub PlacedOn : Placed → Type 0
PlacedOn p = (c : GridColour) → p ≡ Ok c → OnGrid c
