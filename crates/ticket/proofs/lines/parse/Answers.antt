-- The text is too long, or its settings are wrong, or its readings, or it says a ticket. Assumes nothing.
use Rattle.std.proofs.Common.{sym, ◌∙◌}
use Rattle.ticket.specs.Ticket.Laws.{handed_on, ticket_of_long, ticket_of_short}
use Rattle.ticket.proofs.lines.parse.Goals as goal

pub returns-then-text-gt4096 : goal.returns-then-text-gt4096
returns-then-text-gt4096 c = ticket_of_long _ c.if-text-gt4096.true

pub returns-in_err-settings : goal.returns-in_err-settings
returns-in_err-settings c =
    handed_on _ _ c.from_residual.ensures ∙ sym c.in_err-settings.ensures.value
    ∙ ticket_of_short _ c.if-text-gt4096.false

pub returns-in_err-reference : goal.returns-in_err-reference
returns-in_err-reference c =
    handed_on _ _ c.from_residual-in_err-reference.ensures ∙ sym (c.in_err-reference.ensures c.in_ok-settings.settings)
    ∙ sym c.in_ok-settings.ensures.value ∙ ticket_of_short _ c.if-text-gt4096.false

pub returns : goal.returns
returns c =
    sym (c.in_ok-reference.ensures c.in_ok-settings.settings) ∙ sym c.in_ok-settings.ensures.value
    ∙ ticket_of_short _ c.if-text-gt4096.false
