-- THE THEOREM ON RUNS OF CALLS: after any calls the station's slice is that of one that was freshly started and given
-- the last accepted standard alone, or zeros if none was accepted; so the next call answers and writes what that
-- station's would. Assumes nothing.
use Rattle.std.specs.Prelude.{◌≡◌, refl, List, [], ◌∷◌, ℕ}
use Rattle.std.proofs.Common.{ap, ◌∙◌, subst}
use Rattle.colour.specs.Placed.{Reading}
use Rattle.standard.specs.Refusals.{number_at, first_of, refusal}
use Rattle.standard.specs.Acceptance.{settings_of}
use Rattle.station.specs.Record.{decode, zeros}
use Rattle.station.specs.Record.Back.{zeros-empty}
use Rattle.station.specs.Runs.{left, left_by, last_accepted, fresh}
use Rattle.station.specs.Runs.Laws.{run_left, AllValid, none, more, run_holds}
use Rattle.calls.specs.Outcome.{loaded, judged_by, judge_faults}
use Rattle.calls.proofs.Theorems.Outcome.Load.{loaded-valid}
use Rattle.calls.specs.Calls.{Answer, Gives, load_call, judge_call}
use Rattle.calls.proofs.Theorems.Calls.Laws.{load-left}
use Rattle.calls.specs.Runs.{Call, load, judge, ticket, slice_after, loads, AsFresh}

slice-left : (xs : List ℕ) (cs : List Call) → slice_after xs cs ≡ left_by xs (loads cs)
unfolding slice_after loads left_by
slice-left xs [] = refl
slice-left xs (load formula white l c tolerance r ∷ cs) =
    ap (λ (ys : List ℕ). slice_after ys cs) (load-left xs formula white l c tolerance r)
    ∙ slice-left (left xs (loaded (settings_of formula white l c tolerance) r)) cs
slice-left xs (judge r room column ∷ cs) = slice-left xs cs
slice-left xs (ticket text room column ∷ cs) = slice-left xs cs

pub run_slice : (cs : List Call) → slice_after zeros cs ≡ fresh (last_accepted (loads cs))
run_slice cs = slice-left zeros cs ∙ run_left (loads cs)

-- and it holds that standard
loads-valid : (cs : List Call) → AllValid (loads cs)
unfolding loads
loads-valid [] = none
loads-valid (load formula white l c tolerance r ∷ cs) =
    more (loaded-valid (settings_of formula white l c tolerance) r) (loads-valid cs)
loads-valid (judge r room column ∷ cs) = loads-valid cs
loads-valid (ticket text room column ∷ cs) = loads-valid cs

pub run_holds_last : (cs : List Call) → decode (slice_after zeros cs) ≡ last_accepted (loads cs)
run_holds_last cs = ap decode (slice-left zeros cs) ∙ run_holds (loads cs) (loads-valid cs)

-- ---- the next call

pub run_load :
    (cs : List Call) (formula white l c tolerance : ℕ) (r : Reading) →
    load_call (slice_after zeros cs) formula white l c tolerance r
    ≡ load_call (fresh (last_accepted (loads cs))) formula white l c tolerance r
run_load cs formula white l c tolerance r =
    ap (λ (xs : List ℕ). load_call xs formula white l c tolerance r) (run_slice cs)

pub run_judge :
    (cs : List Call) (r : Reading) (room : List ℕ) (column : ℕ) →
    judge_call (slice_after zeros cs) r room column ≡ judge_call (fresh (last_accepted (loads cs))) r room column
run_judge cs r room column = ap (λ (xs : List ℕ). judge_call xs r room column) (run_slice cs)

-- where none was accepted that is 9, and the room as it was
pub zeros-judge :
    (r : Reading) (room : List ℕ) (column : ℕ) → judge_call zeros r room column ≡ record { number = 9; bytes = room }
unfolding judge_call judged_by judge_faults refusal number_at first_of
zeros-judge r room column = rw zeros-empty

-- the same for the code of `judge_call`, whose contract cites it
pub judged-after :
    (xs : List ℕ) (r : Reading) (room : List ℕ) (column : ℕ) {n : ℕ} {ys : List ℕ} →
    Gives (judge_call xs r room column) n ys →
    AsFresh xs r room column n ys
judged-after xs r room column {n} {ys} g cs e =
    subst (λ (a : Answer). Gives a n ys) (ap (λ (l : List ℕ). judge_call l r room column) e ∙ run_judge cs r room column)
    g
