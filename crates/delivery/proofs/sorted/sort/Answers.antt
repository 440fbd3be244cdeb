-- `sorted::sort` meets its contract: one law of `Sorted/Laws.antt` for each way out. Assumes nothing.
use Rattle.std.proofs.Common.{sym, ◌∙◌}
use Rattle.delivery.proofs.Theorems.Sorted.Laws.{read_in, none_misshapen, err_no_white, ok_factor_out, ok_in_turn}
use Rattle.delivery.proofs.sorted.sort.Goals as goal

pub returns-in_default : goal.returns-in_default
returns-in_default c =
    none_misshapen c.args.space c.args.white _ _ _ _ _ _ c.shaped.ensures c.in_default.is c.refused.ensures

pub returns-in-Err : goal.returns-in-Err
returns-in-Err c =
    err_no_white c.args.space c.args.white _ _ _ _ _ _ c.shaped.ensures c.in-Some.is c.try_from.ensures c.in-Err.is
    c.refused-in-Err.ensures

pub returns-then-not-are_factors : goal.returns-then-not-are_factors
returns-then-not-are_factors c =
    rw (← c.from-l.ensures, ← c.from-c.ensures)
    (ok_factor_out c.args.space c.args.white _ _ _ _ _ _ c.shaped.ensures c.in-Some.is c.try_from.ensures c.in-Ok.is
    (sym c.are_factors.ensures ∙ c.if-not-are_factors.true) c.refused-then-not-are_factors.ensures)

pub sort_in-requires : goal.sort_in-requires
sort_in-requires c =
    read_in c.args.space c.args.white _ _ _ _ _ _ c.shaped.ensures c.in-Some.is
    (sym c.are_factors.ensures ∙ c.if-not-are_factors.false)

pub returns : goal.returns
returns c =
    rw (← c.from-l.ensures, ← c.from-c.ensures)
    (ok_in_turn c.args.space c.args.white _ _ _ _ _ _ c.shaped.ensures c.in-Some.is c.try_from.ensures c.in-Ok.is
    (sym c.are_factors.ensures ∙ c.if-not-are_factors.false) c.sort_in.ensures)
