-- docs/SCOPE.md 1.4, runs over the station's slice: it starts as zeros, and each acceptance is written over what the
-- one before left. Assumes nothing.
use Rattle.std.specs.Prelude.{List, [], ◌∷◌, ℕ, Ok, Err, Option, Some, None}
use Rattle.standard.specs.Acceptance.{Acceptance}
use Rattle.standard.specs.declared.accept.Standard.{Standard}
use Rattle.station.specs.Record.{store_in, zeros}
pub mod Laws

-- the slice after an acceptance: what is refused leaves it
abbrev pub left : List ℕ → Acceptance → List ℕ
left xs (Err n) = xs
left xs (Ok s) = store_in s xs

unfoldable pub left_by : List ℕ → List Acceptance → List ℕ
left_by xs [] = xs
left_by xs (a ∷ run) = left_by (left xs a) run

-- the standard that was accepted last, if one was; `before` was, before the run
unfoldable pub last_from : (before : Option Standard) → List Acceptance → Option Standard
last_from before [] = before
last_from before (Err n ∷ run) = last_from before run
last_from before (Ok s ∷ run) = last_from (Some s) run

abbrev pub last_accepted : List Acceptance → Option Standard
last_accepted run = last_from None run

-- the slice of a freshly started station that was given that standard alone
unfoldable pub fresh : Option Standard → List ℕ
fresh None = zeros
fresh (Some s) = store_in s zeros
