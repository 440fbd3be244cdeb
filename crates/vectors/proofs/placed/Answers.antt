-- What was placed lies on the grid, so the sheet may be asked.
use Rattle.std.proofs.Common.{◌≡◌, refl, sym, ◌∙◌}
use Rattle.std.specs.Prelude.{Ok, Err, IfSome}
use Rattle.std.specs.Result.{result_ok}
use Rattle.colour.specs.Conversion.Ranges.{OnGrid}
use Rattle.colour.specs.Placed.{Placed}
use Rattle.colour.specs.declared.conversion.GridColour.{GridColour}
use Rattle.colour.proofs.Theorems.Placed.Laws.{written_on_grid}
use Rattle.vectors.proofs.placed.Goals as goal

where_placed : (p : Placed) → ((c : GridColour) → p ≡ Ok c → OnGrid c) → IfSome (result_ok p) OnGrid
where_placed (Ok c) h = h c refl
where_placed (Err e) h = tt

pub returns : goal.returns
returns c =
    let value : c.ok.result ≡ result_ok c.place.result = c.ok.ensures.value in
    rw value (where_placed c.place.result (λ k e. written_on_grid _ _ k (sym c.place.ensures ∙ e)))
