-- A refusal's line or a report, by what the parsed text comes to. Assumes nothing.
use Rattle.std.proofs.Common.{◌≡◌, ℕ, ap, ◌∙◌}
use Rattle.colour.specs.Refusal.{number_of_refusal}
use Rattle.printing.specs.Printed.{refusal_line, line_of}
use Rattle.printing.specs.Printed.Laws.{refusal-printed, report-printed, prints_as}
use Rattle.printing.proofs.printed.Goals as goal

pub returns-in-Err : goal.returns-in-Err
returns-in-Err c =
    let number : c.from-in-Err.result ≡ number_of_refusal c.in-Err.e = c.from-in-Err.ensures ∙ c.from.ensures in
    let line : c.from-in-Err-2.result ≡ line_of c.parse-p.result = c.from-in-Err-2.ensures ∙ c.line_of.ensures in
    prints_as
    (ap (λ (n : ℕ). refusal_line n c.from-in-Err-2.result) number
    ∙ refusal-printed _ c.parse-p.ensures c.ticket_outcome.ensures c.in-Err.is line)
    c.print_refusal.ensures

pub returns-in-Ok : goal.returns-in-Ok
returns-in-Ok c =
    prints_as (report-printed _ c.parse-p.ensures c.ticket_outcome.ensures c.in-Ok.is) c.print_report.ensures
