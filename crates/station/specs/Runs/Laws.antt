-- THE THEOREM ON RUNS: what any acceptances leave of zeros is what the last accepted one alone leaves, and it reads
-- back as that standard, or as none. Assumes nothing.
use Rattle.std.specs.Prelude.{◌≡◌, refl, List, [], ◌∷◌, ℕ, length, Ok, Err, Option, Some, None}
use Rattle.std.proofs.Common.{sym, ap, ◌∙◌}
use Rattle.standard.specs.Acceptance.{ValidIn, Acceptance}
use Rattle.standard.specs.declared.accept.Standard.{Standard}
use Rattle.station.specs.Record.{store_in, decode, zeros}
use Rattle.station.specs.Record.Laws.{stores}
use Rattle.station.specs.Record.Back.{length-encode, length-zeros, zeros-empty, decode-encode}
use Rattle.station.specs.Runs.{left_by, last_from, last_accepted, fresh}

-- whatever 20 bytes it is stored in
store_same : (s : Standard) (xs : List ℕ) → length xs ≡ 20 → store_in s xs ≡ store_in s zeros
store_same s xs n = sym (stores s xs n) ∙ stores s zeros length-zeros

fresh-length : (last : Option Standard) → length (fresh last) ≡ 20
unfolding fresh
fresh-length None = length-zeros
fresh-length (Some s) = ap length (sym (stores s zeros length-zeros)) ∙ length-encode s

run_from : (last : Option Standard) (run : List Acceptance) → left_by (fresh last) run ≡ fresh (last_from last run)
unfolding left_by last_from fresh
run_from last [] = refl
run_from last (Err n ∷ run) = run_from last run
run_from last (Ok s ∷ run) =
    ap (λ (xs : List ℕ). left_by xs run) (store_same s (fresh last) (fresh-length last)) ∙ run_from (Some s) run

pub run_left : (run : List Acceptance) → left_by zeros run ≡ fresh (last_accepted run)
unfolding fresh
run_left run = run_from None run

-- ---- and it reads back

pub data AllValid : List Acceptance → Type 0 where
  none : AllValid []
  more : {a : Acceptance} {run : List Acceptance} → ValidIn a → AllValid run → AllValid (a ∷ run)

last_holds :
    (last : Option Standard) → decode (fresh last) ≡ last → (run : List Acceptance) → AllValid run →
    decode (fresh (last_from last run)) ≡ last_from last run
unfolding last_from fresh
last_holds last h [] all = h
last_holds last h (Err n ∷ run) (more v all) = last_holds last h run all
last_holds last h (Ok s ∷ run) (more v all) =
    last_holds (Some s) (ap decode (sym (stores s zeros length-zeros)) ∙ decode-encode s (v s refl)) run all

pub run_holds : (run : List Acceptance) → AllValid run → decode (left_by zeros run) ≡ last_accepted run
unfolding fresh
run_holds run all = ap decode (run_left run) ∙ last_holds None zeros-empty run all
