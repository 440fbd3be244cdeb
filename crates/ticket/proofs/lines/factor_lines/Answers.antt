-- With tol= at its head the text has no lines l and c; else a line l is due, and then a line c. Assumes nothing.
use Rattle.std.proofs.Common.{ℕ, ◌+◌, sym, ap, ◌∙◌}
use Rattle.ticket.specs.Ticket.{filled, factor_lines, c_line, tol_line}
use Rattle.ticket.specs.Ticket.Laws.{due_err, due_ok, handed_on, thousandths_of_nil, then_missing, then_given}
use Rattle.ticket.proofs.lines.factor_lines.Goals as goal

pub returns-then-starts-clause-one : goal.returns-then-starts-clause-one
returns-then-starts-clause-one c = λ next. then_missing next _ _ _ c.starts.ensures c.if-starts.true

pub returns-in_err-l-clause-one : goal.returns-in_err-l-clause-one
returns-in_err-l-clause-one c = λ next.
    rw (handed_on _ _ c.from_residual.ensures)
    (then_given next _ _ _ c.starts.ensures c.if-starts.false
    ∙ due_err _ _ _ _ _ thousandths_of_nil c.value.ensures c.thousandths.ensures c.wrong.ensures c.ok_or.ensures.value
    c.in_err-l.was)

pub returns-in_err-c-clause-one : goal.returns-in_err-c-clause-one
returns-in_err-c-clause-one c = λ next.
    rw (handed_on _ _ c.from_residual-in_err-c.ensures)
    (then_given next _ _ _ c.starts.ensures c.if-starts.false
    ∙ due_ok _ _ _ _ _ thousandths_of_nil c.value.ensures c.thousandths.ensures c.wrong.ensures c.ok_or.ensures.value
    c.in_ok-l.was c.next-rest.ensures.text
    ∙ due_err _ _ _ _ _ thousandths_of_nil c.value-2.ensures c.thousandths-2.ensures
    (c.wrong-2.ensures ∙ c.next-rest.ensures.line) c.ok_or-2.ensures.value c.in_err-c.was)

pub returns-clause-one : goal.returns-clause-one
returns-clause-one c = λ next.
    then_given next _ _ _ c.starts.ensures c.if-starts.false
    ∙ due_ok _ _ _ _ _ thousandths_of_nil c.value.ensures c.thousandths.ensures c.wrong.ensures c.ok_or.ensures.value
    c.in_ok-l.was c.next-rest.ensures.text
    ∙ due_ok _ _ _ _ _ thousandths_of_nil c.value-2.ensures c.thousandths-2.ensures
    (c.wrong-2.ensures ∙ c.next-rest.ensures.line) c.ok_or-2.ensures.value c.in_ok-c.was c.next.ensures.text
    ∙ ap (λ (n : ℕ). next n (filled c.args.blank c.in_ok-l.l c.in_ok-c.c c.args.blank.tolerance) c.next.result.text.now)
    (sym (c.next.ensures.line ∙ ap (λ (n : ℕ). n + 1) c.next-rest.ensures.line))

-- a line tol is what comes next

pub returns-then-starts-clause-value : goal.returns-then-starts-clause-value
unfolding factor_lines c_line
returns-then-starts-clause-value c = returns-then-starts-clause-one c tol_line

pub returns-in_err-l-clause-value : goal.returns-in_err-l-clause-value
unfolding factor_lines c_line
returns-in_err-l-clause-value c = returns-in_err-l-clause-one c tol_line

pub returns-in_err-c-clause-value : goal.returns-in_err-c-clause-value
unfolding factor_lines c_line
returns-in_err-c-clause-value c = returns-in_err-c-clause-one c tol_line

pub returns-clause-value : goal.returns-clause-value
unfolding factor_lines c_line
returns-clause-value c = returns-clause-one c tol_line
