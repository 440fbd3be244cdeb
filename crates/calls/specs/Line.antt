-- docs/SCOPE.md 9.3 and 11.2: a ticket's answer carries the number of the first wrong line, 0 for all refusals but 7.
-- Definitions only: `Line/Laws.antt` has what they come to. Assumes nothing.
use Rattle.std.specs.Prelude.{ℕ, Ok, Err}
use Rattle.ticket.specs.Ticket.{Parsed}
use Rattle.standard.specs.Figures.{specimen_answer}
use Rattle.calls.specs.declared.figures.TicketAnswer.{TicketAnswer}
use Rattle.calls.specs.Outcome.{ticket_outcome}

-- the first wrong line, and 0 where the text is right
abbrev pub line_of : Parsed → ℕ
line_of (Ok t) = 0
line_of (Err e) = e.0

-- what a ticket hands back: its number and its line, figures, names and verdict
unfoldable pub ticket_answer : Parsed → TicketAnswer
ticket_answer p = record { line = line_of p; answer = specimen_answer (ticket_outcome p) }
