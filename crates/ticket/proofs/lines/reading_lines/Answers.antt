-- The lines space, ref and test are due, one after the other. Assumes nothing.
use Rattle.std.proofs.Common.{ℕ, ◌+◌, sym, ap, ◌∙◌, eqb-true}
use Rattle.std.proofs.lemmas.Bool.{eqb-false}
use Rattle.ticket.specs.Ticket.{space_line, ref_line, test_line, wrong_line}
use Rattle.ticket.specs.Ticket.Laws.{due_err, due_ok, handed_on, space_of_nil, reading_of_nil, more_right, more_wrong}
use Rattle.ticket.proofs.lines.reading_lines.Goals as goal

pub returns-in_err-space : goal.returns-in_err-space
unfolding space_line
returns-in_err-space c = λ p.
    rw (handed_on _ _ c.from_residual.ensures)
    (due_err _ _ _ _ _ space_of_nil c.value.ensures c.space_named.ensures c.wrong.ensures c.ok_or.ensures.value
    c.in_err-space.was)

pub returns-in_err-reference : goal.returns-in_err-reference
unfolding space_line ref_line
returns-in_err-reference c = λ p.
    rw (handed_on _ _ c.from_residual-in_err-reference.ensures)
    (due_ok _ _ _ _ _ space_of_nil c.value.ensures c.space_named.ensures c.wrong.ensures c.ok_or.ensures.value
    c.in_ok-space.was c.next-rest.ensures.text
    ∙ due_err _ _ _ _ _ (reading_of_nil _) c.value-2.ensures c.reading_of.ensures
    (c.wrong-2.ensures ∙ c.next-rest.ensures.line) c.ok_or-2.ensures.value c.in_err-reference.was)

pub returns-in_err-test : goal.returns-in_err-test
unfolding space_line ref_line test_line
returns-in_err-test c = λ p.
    let second = c.next-rest.ensures.line in
    let third = c.next-rest-2.ensures.line ∙ ap (λ (n : ℕ). n + 1) second in
    rw (handed_on _ _ c.from_residual-in_err-test.ensures)
    (due_ok _ _ _ _ _ space_of_nil c.value.ensures c.space_named.ensures c.wrong.ensures c.ok_or.ensures.value
    c.in_ok-space.was c.next-rest.ensures.text
    ∙ due_ok _ _ _ _ _ (reading_of_nil _) c.value-2.ensures c.reading_of.ensures (c.wrong-2.ensures ∙ second)
    c.ok_or-2.ensures.value c.in_ok-reference.was c.next-rest-2.ensures.text
    ∙ due_err _ _ _ _ _ (reading_of_nil _) c.value-3.ensures c.reading_of-2.ensures (c.wrong-3.ensures ∙ third)
    c.ok_or-3.ensures.value c.in_err-test.was)

pub returns-then-is_empty : goal.returns-then-is_empty
unfolding space_line ref_line test_line
returns-then-is_empty c = λ p.
    let second = c.next-rest.ensures.line in
    let third = c.next-rest-2.ensures.line ∙ ap (λ (n : ℕ). n + 1) second in
    due_ok _ _ _ _ _ space_of_nil c.value.ensures c.space_named.ensures c.wrong.ensures c.ok_or.ensures.value
    c.in_ok-space.was c.next-rest.ensures.text
    ∙ due_ok _ _ _ _ _ (reading_of_nil _) c.value-2.ensures c.reading_of.ensures (c.wrong-2.ensures ∙ second)
    c.ok_or-2.ensures.value c.in_ok-reference.was c.next-rest-2.ensures.text
    ∙ due_ok _ _ _ _ _ (reading_of_nil _) c.value-3.ensures c.reading_of-2.ensures (c.wrong-3.ensures ∙ third)
    c.ok_or-3.ensures.value c.in_ok-test.was c.next-rest-3.ensures.text
    ∙ sym (more_right _ _ _ (eqb-true _ _ (sym c.is_empty.ensures ∙ c.if-is_empty.true)))

pub returns-else-is_empty : goal.returns-else-is_empty
unfolding space_line ref_line test_line
returns-else-is_empty c = λ p.
    let second = c.next-rest.ensures.line in
    let third = c.next-rest-2.ensures.line ∙ ap (λ (n : ℕ). n + 1) second in
    let fourth = c.next-rest-3.ensures.line ∙ ap (λ (n : ℕ). n + 1) third in
    due_ok _ _ _ _ _ space_of_nil c.value.ensures c.space_named.ensures c.wrong.ensures c.ok_or.ensures.value
    c.in_ok-space.was c.next-rest.ensures.text
    ∙ due_ok _ _ _ _ _ (reading_of_nil _) c.value-2.ensures c.reading_of.ensures (c.wrong-2.ensures ∙ second)
    c.ok_or-2.ensures.value c.in_ok-reference.was c.next-rest-2.ensures.text
    ∙ due_ok _ _ _ _ _ (reading_of_nil _) c.value-3.ensures c.reading_of-2.ensures (c.wrong-3.ensures ∙ third)
    c.ok_or-3.ensures.value c.in_ok-test.was c.next-rest-3.ensures.text
    ∙ sym (more_wrong _ _ _ (eqb-false _ _ (sym c.is_empty.ensures ∙ c.if-is_empty.false)))
    ∙ sym (ap wrong_line (c.wrong-else-is_empty.ensures ∙ fourth))
