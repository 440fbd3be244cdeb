-- `mean::sum_of` meets its contract: by the laws of `cones` for each way through its loop. Assumes nothing.
use Rattle.std.specs.Prelude.{refl, ℕ, Result, Ok, Err, MatchResult, IsErrAnd}
use Rattle.std.proofs.Common.{rules, ◌≡◌, ◌≤◌, length, arith, sym, ap, ◌∙◌}
use Rattle.colour.specs.Conversion.Ranges.{OnGrid}
use Rattle.colour.specs.Placed.{Placed, Reading, place}
use Rattle.colour.proofs.Theorems.Placed.Laws.{place_on_grid}
use Rattle.colour.specs.declared.conversion.GridColour.{GridColour}
use Rattle.colour.specs.declared.white.White.{White}
use Rattle.cones.specs.Cones.{no_reading, turn_in}
use Rattle.cones.proofs.Theorems.InTurn.Laws.{passed_none, passed_more, passed-refused, passed_all}
use Rattle.colour.specs.declared.refusal.Refusal.{Refusal}
use Rattle.delivery.specs.declared.mean.RefusedCone.{RefusedCone}
use Rattle.delivery.specs.Sums.{summed}
use Rattle.delivery.proofs.Theorems.Sums.Laws.{no_sums, one_more_sum, sums_at_most}
use Rattle.std.proofs.lemmas.Result.{err_from_is_err_and}
use Rattle.delivery.proofs.mean.sum_of.Goals as goal

pub loop-i-init : goal.loop-i-init
loop-i-init c = passed_none (turn_in c.args.white) _ no_sums

-- a cone that is placed lies on the grid
accepted_on_grid : (w : White) (r : Reading) {p : Placed} {c : GridColour} → p ≡ place w r → p ≡ Ok c → OnGrid c
accepted_on_grid w r {c = c} e h = place_on_grid w r c (sym e ∙ h)

-- what `map_err` leaves: a cone that is placed, or a refusal with its cone
placed_there :
    (p : Placed) (Q : Refusal → RefusedCone → Type 0) {r : Result GridColour RefusedCone} {v : GridColour} →
    MatchResult p (λ x. r ≡ Ok x) (λ e. IsErrAnd r (Q e)) → r ≡ Ok v → p ≡ Ok v
placed_there (Ok x) Q {v = v} m h = let same : x ≡ v = cc in ap Ok same
placed_there (Err e) Q m h = absurd (rw h at m)

refused_there :
    (p : Placed) (Q : Refusal → RefusedCone → Type 0) {r : Result GridColour RefusedCone} {f : RefusedCone} →
    MatchResult p (λ x. r ≡ Ok x) (λ e. IsErrAnd r (Q e)) → r ≡ Err f → (e : Refusal) × (p ≡ Err e) × Q e f
refused_there (Ok x) Q m h = let no : ◌≡◌ {A = ℕ} 0 1 = cc in absurd (omega arith)
refused_there (Err e) Q m h = (e, refl, rw h at m)

pub with_colour-sums-requires : goal.with_colour-sums-requires
with_colour-sums-requires c =
    let few : length c.loop-i.invariant.so_far ≤ 256 =
    omega (arith, c.loop-i.invariant.count, c.loop-i-test.true, c.len-i-end.ensures, c.requires) in
    record {
      sums = sums_at_most c.loop-i.invariant.holds few;
      colour = accepted_on_grid c.args.white _ c.place.ensures (placed_there _ _ c.map_err.ensures.cases c.in_ok-colour.was);
    }

pub loop-i-preserved : goal.loop-i-preserved
loop-i-preserved c =
    let placed = placed_there _ _ c.map_err.ensures.cases c.in_ok-colour.was in
    let on = accepted_on_grid c.args.white _ c.place.ensures placed in
    passed_more (turn_in c.args.white) c.loop-i.invariant no_reading (rw (← c.len-i-end.ensures) c.loop-i-test.true)
    c.reading.ensures c.in_ok-colour.colour (sym c.place.ensures ∙ placed)
    (λ us n h. one_more_sum on c.with_colour-sums.ensures us h)

pub returns-in_err-colour : goal.returns-in_err-colour
returns-in_err-colour c =
    let (e, is, k) = refused_there _ _ c.map_err.ensures.cases c.in_err-colour.was in
    let named : c.in_err-colour.field-0.0 ≡ record { refusal = e; cone = c.loop-i.i-counter } = search rules in
    let (f, gives, same) = err_from_is_err_and c.from_residual.result c.from_residual.ensures.1 in
    gives ∙ ap Err (same ∙ named)
    ∙ sym (ap summed
    (passed-refused (turn_in c.args.white) c.loop-i.invariant no_reading (rw (← c.len-i-end.ensures) c.loop-i-test.true)
    c.reading.ensures (sym c.place.ensures ∙ is)))

pub returns : goal.returns
returns c =
    let all = passed_all (turn_in c.args.white) c.loop-i.invariant (rw (← c.len-i-end.ensures) c.loop-i-test.false) in
    ap Ok all.holds.is ∙ sym (ap summed all.is)
