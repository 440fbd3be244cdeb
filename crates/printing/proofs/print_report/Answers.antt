-- The report's refusal says whether it was written. Assumes nothing.
use Rattle.std.proofs.Common.{sym, ap, ◌∙◌}
use Rattle.colour.specs.Refusal.{refusal_of}
use Rattle.colour.proofs.Theorems.Refusal.{number-some}
use Rattle.printing.specs.Printed.Laws.{prints_report, prints_no_report}
use Rattle.printing.proofs.print_report.Goals as goal

pub returns-in-Ok : goal.returns-in-Ok
returns-in-Ok c = prints_report c.write_report.ensures (ap refusal_of c.in-Ok.is) c.report_len.ensures

pub returns-in-Err : goal.returns-in-Err
returns-in-Err c =
    prints_no_report c.write_report.ensures (λ z. number-some _ (sym (ap refusal_of c.in-Err.is) ∙ z))
