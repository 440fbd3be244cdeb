-- docs/SCOPE.md 1.4, 2.2: runs of calls. The station's slice starts as zeros, and each call gets it as the call before
-- left it. Assumes nothing.
use Rattle.std.specs.Prelude.{◌≡◌, List, [], ◌∷◌, ℕ}
use Rattle.colour.specs.Placed.{Reading}
use Rattle.standard.specs.Acceptance.{settings_of, Acceptance}
use Rattle.station.specs.Record.{zeros}
use Rattle.station.specs.Runs.{last_accepted, fresh}
use Rattle.calls.specs.Outcome.{loaded}
use Rattle.calls.specs.Calls.{Gives, load_call, judge_call}

pub data Call : Type 0 where
  load : (formula white l c tolerance : ℕ) → Reading → Call
  judge : Reading → (room : List ℕ) (column : ℕ) → Call
  ticket : (text room : List ℕ) (column : ℕ) → Call

-- the slice after a run: only a load can write it
unfoldable pub slice_after : List ℕ → List Call → List ℕ
slice_after xs [] = xs
slice_after xs (load formula white l c tolerance r ∷ cs) =
    slice_after (load_call xs formula white l c tolerance r).bytes cs
slice_after xs (judge r room column ∷ cs) = slice_after xs cs
slice_after xs (ticket text room column ∷ cs) = slice_after xs cs

-- what the loads of a run come to
unfoldable pub loads : List Call → List Acceptance
loads [] = []
loads (load formula white l c tolerance r ∷ cs) = loaded (settings_of formula white l c tolerance) r ∷ loads cs
loads (judge r room column ∷ cs) = loads cs
loads (ticket text room column ∷ cs) = loads cs

-- whatever calls from zeros left the station's slice as xs, a judgement's number n and room ys are those of a freshly
-- started station that was given the last accepted standard alone, or none
abbrev pub AsFresh : (xs : List ℕ) → Reading → (room : List ℕ) (column n : ℕ) (ys : List ℕ) → Type 0
AsFresh xs r room column n ys =
    (cs : List Call) → xs ≡ slice_after zeros cs → Gives (judge_call (fresh (last_accepted (loads cs))) r room column) n ys
