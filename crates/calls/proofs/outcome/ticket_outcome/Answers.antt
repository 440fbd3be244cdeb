-- `outcome::ticket_outcome` meets its contract: what is accepted is a valid standard, and what is placed lies on the
-- grid. Assumes nothing.
use Rattle.std.proofs.Common.{sym, ◌∙◌}
use Rattle.standard.proofs.Theorems.Acceptance.Laws.{accepted-valid}
use Rattle.colour.proofs.Theorems.Placed.Laws.{written_on_grid}
use Rattle.calls.proofs.outcome.ticket_outcome.Goals as goal

pub judge-requires : goal.judge-requires
judge-requires c =
    let t = c.in-Ok.t in
    record {
      standard =
          accepted-valid t.settings c.place.result
          (λ k e. written_on_grid t.settings.white t.reference k (sym c.place.ensures ∙ e)) c.in_ok-s.s
          (sym c.accept.ensures ∙ c.in_ok-s.was);
      test = λ k e. written_on_grid t.settings.white t.test k (sym c.place-2.ensures ∙ e);
    }
