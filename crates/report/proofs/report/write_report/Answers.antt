-- The part from the column on is lent to the line writer, and comes
-- back with the report at its start. Assumes nothing.
use Rattle.std.proofs.Common.{List, ◌++◌, ℕ, ◌-◌, length, take, drop, sym, ap, ◌∙◌, arith}
use Rattle.text.proofs.Theorems.Put.Laws.{part-put}
use Rattle.report.specs.Report.{report_text}
use Rattle.report.specs.Write.Laws.{write_number_zero, write_room_put}
use Rattle.report.proofs.report.write_report.Goals as goal

pub returns : goal.returns
returns c =
    let room = c.args.room.now in
    record {
      number_is = sym (write_number_zero room c.args.column c.args.j (omega arith));
      room_is =
          ap (λ (l : List ℕ). take c.args.column room ++ (l ++ drop (length room - c.args.column) (drop c.args.column room)))
          c.write_lines.ensures
          ∙ part-put room c.args.column (report_text c.args.j) (omega arith)
          ∙ sym (write_room_put room c.args.column c.args.j (omega arith));
    }
