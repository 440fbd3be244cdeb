-- The lines formula and white are due, then l and c or neither, then tol. Assumes nothing.
use Rattle.std.proofs.Common.{ℕ, ◌+◌, sym, ap, ◌∙◌}
use Rattle.ticket.specs.Ticket.{white_line, factor_lines, c_line, tol_line, space_line, filled, blank}
use Rattle.ticket.specs.Ticket.Laws.{factors_then, tol_then, due_err, due_ok, handed_on, formula_of_nil, white_of_nil, thousandths_of_nil}
use Rattle.ticket.proofs.lines.setting_lines.Goals as goal

pub returns-in_err-formula-clause-one : goal.returns-in_err-formula-clause-one
returns-in_err-formula-clause-one c = λ next.
    rw (handed_on _ _ c.from_residual.ensures)
    (due_err _ _ _ _ _ formula_of_nil c.value.ensures c.formula_named.ensures c.wrong.ensures c.ok_or.ensures.value
    c.in_err-formula.was)

pub returns-in_err-white-clause-one : goal.returns-in_err-white-clause-one
returns-in_err-white-clause-one c = λ next.
    rw (handed_on _ _ c.from_residual-in_err-white.ensures)
    (due_ok _ _ _ _ _ formula_of_nil c.value.ensures c.formula_named.ensures c.wrong.ensures c.ok_or.ensures.value
    c.in_ok-formula.was c.next-rest.ensures.text
    ∙ due_err _ _ _ _ _ white_of_nil c.value-2.ensures c.white_named.ensures
    (c.wrong-2.ensures ∙ c.next-rest.ensures.line) c.ok_or-2.ensures.value c.in_err-white.was)

pub returns-in_err-settings-clause-one : goal.returns-in_err-settings-clause-one
returns-in_err-settings-clause-one c = λ next.
    let p = blank c.in_ok-formula.formula c.in_ok-white.white in
    rw (handed_on _ _ c.from_residual-in_err-settings.ensures)
    (due_ok _ _ _ _ _ formula_of_nil c.value.ensures c.formula_named.ensures c.wrong.ensures c.ok_or.ensures.value
    c.in_ok-formula.was c.next-rest.ensures.text
    ∙ due_ok _ _ _ _ _ white_of_nil c.value-2.ensures c.white_named.ensures (c.wrong-2.ensures ∙ c.next-rest.ensures.line)
    c.ok_or-2.ensures.value c.in_ok-white.was c.next.ensures.text
    ∙ ap (λ (n : ℕ). factors_then (tol_then next) n p c.next.result.text.now)
    (sym (c.next.ensures.line ∙ ap (λ (n : ℕ). n + 1) c.next-rest.ensures.line))
    ∙ c.in_err-settings.ensures.one (tol_then next))

pub returns-in_err-tolerance-clause-one : goal.returns-in_err-tolerance-clause-one
returns-in_err-tolerance-clause-one c = λ next.
    let p = blank c.in_ok-formula.formula c.in_ok-white.white in
    rw (handed_on _ _ c.from_residual-in_err-tolerance.ensures)
    (due_ok _ _ _ _ _ formula_of_nil c.value.ensures c.formula_named.ensures c.wrong.ensures c.ok_or.ensures.value
    c.in_ok-formula.was c.next-rest.ensures.text
    ∙ due_ok _ _ _ _ _ white_of_nil c.value-2.ensures c.white_named.ensures (c.wrong-2.ensures ∙ c.next-rest.ensures.line)
    c.ok_or-2.ensures.value c.in_ok-white.was c.next.ensures.text
    ∙ ap (λ (n : ℕ). factors_then (tol_then next) n p c.next.result.text.now)
    (sym (c.next.ensures.line ∙ ap (λ (n : ℕ). n + 1) c.next-rest.ensures.line))
    ∙ c.in_ok-settings.ensures.one (tol_then next)
    ∙ due_err _ _ _ _ _ thousandths_of_nil c.value-3.ensures c.thousandths.ensures c.wrong-3.ensures
    c.ok_or-3.ensures.value c.in_err-tolerance.was)

pub returns-clause-one : goal.returns-clause-one
returns-clause-one c = λ next.
    let p = blank c.in_ok-formula.formula c.in_ok-white.white in
    let q = c.in_ok-settings.settings in
    due_ok _ _ _ _ _ formula_of_nil c.value.ensures c.formula_named.ensures c.wrong.ensures c.ok_or.ensures.value
    c.in_ok-formula.was c.next-rest.ensures.text
    ∙ due_ok _ _ _ _ _ white_of_nil c.value-2.ensures c.white_named.ensures (c.wrong-2.ensures ∙ c.next-rest.ensures.line)
    c.ok_or-2.ensures.value c.in_ok-white.was c.next.ensures.text
    ∙ ap (λ (n : ℕ). factors_then (tol_then next) n p c.next.result.text.now)
    (sym (c.next.ensures.line ∙ ap (λ (n : ℕ). n + 1) c.next-rest.ensures.line))
    ∙ c.in_ok-settings.ensures.one (tol_then next)
    ∙ due_ok _ _ _ _ _ thousandths_of_nil c.value-3.ensures c.thousandths.ensures c.wrong-3.ensures
    c.ok_or-3.ensures.value c.in_ok-tolerance.was c.next-2.ensures.text
    ∙ ap (λ (n : ℕ). next n (filled q q.l q.c c.in_ok-tolerance.tolerance) c.next-2.result.text.now)
    (sym c.next-2.ensures.line)

-- a line space is what comes next

pub returns-in_err-formula-clause-value : goal.returns-in_err-formula-clause-value
unfolding white_line factor_lines c_line tol_line
returns-in_err-formula-clause-value c = returns-in_err-formula-clause-one c space_line

pub returns-in_err-white-clause-value : goal.returns-in_err-white-clause-value
unfolding white_line factor_lines c_line tol_line
returns-in_err-white-clause-value c = returns-in_err-white-clause-one c space_line

pub returns-in_err-settings-clause-value : goal.returns-in_err-settings-clause-value
unfolding white_line factor_lines c_line tol_line
returns-in_err-settings-clause-value c = returns-in_err-settings-clause-one c space_line

pub returns-in_err-tolerance-clause-value : goal.returns-in_err-tolerance-clause-value
unfolding white_line factor_lines c_line tol_line
returns-in_err-tolerance-clause-value c = returns-in_err-tolerance-clause-one c space_line

pub returns-clause-value : goal.returns-clause-value
unfolding white_line factor_lines c_line tol_line
returns-clause-value c = returns-clause-one c space_line
