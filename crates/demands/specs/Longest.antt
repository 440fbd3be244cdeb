-- NO REPORT IS LONGER THAN 161 BYTES, and so 161 bytes from the column on are enough room for every call that writes
-- one: whatever the station's slice or the ticket holds, and whatever is read. `Longest/Reached.antt` has a report of
-- just as many; `proofs/Theorems/Longest.antt` says it of every call, `proofs/Theorems/Longest/Printed.antt` of what the
-- program prints. Assumes nothing.
use Rattle.std.specs.Prelude.{◌≡◌, refl, List, ◌∷◌, ℕ, ◌+◌, ◌≤◌, ◌<◌, length, Ok}
use Rattle.std.proofs.Common.{sym, subst, arith, le-leb}
use Rattle.colour.specs.Conversion.{at_places}
use Rattle.colour.specs.declared.conversion.GridColour.{GridColour}
use Rattle.colour.specs.Placed.{Reading}
use Rattle.sheet.specs.Sheet.{shift, differences, sheet, comparison}
use Rattle.sheet.specs.declared.shift.Shift.{Shift}
use Rattle.ticket.specs.Ticket.{ticket_of, Parsed}
use Rattle.report.specs.Report.{report_text}
use Rattle.report.specs.Report.Longest.{Printable, report-length-le}
use Rattle.report.specs.Write.{has_room}
use Rattle.standard.specs.Refusals.{Fault, refusal}
use Rattle.standard.proofs.Theorems.Refusals.Laws.{Each, more, refusal_keeps}
use Rattle.standard.specs.Judgement.{judgement_of, Specimen, Outcome}
use Rattle.standard.proofs.Theorems.Judgement.Laws.{in_range}
use Rattle.standard.specs.declared.accept.Standard.{Standard}
use Rattle.standard.specs.declared.judge.Judgement.{Judgement}
use Rattle.station.specs.Record.{decode}
use Rattle.calls.specs.Outcome.{judged_by, ticket_outcome}
use Rattle.calls.specs.Outcome.Each.{judge_each, ticket_each}
use Rattle.calls.proofs.Theorems.Outcome.Judge.{judged-said}
use Rattle.calls.proofs.Theorems.Outcome.Ticket.{ticket-said}
use Rattle.calls.specs.Calls.{Answer, room_fault, judge_call, ticket_call}
use Rattle.demands.specs.Longest.Figures.{sheet-figures}
use Rattle.demands.specs.Longest.Names.{not_minus_component, not_minus_of_lighter, not_minus_of_equal, bracket-differs}
pub mod Figures
pub mod Names
pub mod Reached

-- ---- the report of a judgement

printable : {s : Standard} {T : GridColour} → Specimen s T → Printable (judgement_of s T)
unfolding judgement_of comparison sheet differences
printable {s} {T} h =
    let Δ : Shift = shift (at_places 20 s.colour) (at_places 20 T) in
    record {
      l = h.standard.l.high;
      c = h.standard.c.high;
      within = sheet-figures s.settings.formula (in_range h);
      lighter = λ e. not_minus_component _ _ Δ.L (not_minus_of_lighter Δ.L e);
      equal = λ e. not_minus_component _ _ Δ.C (not_minus_of_equal Δ.C e);
      axes = bracket-differs s.colour T;
    }

-- BY EVERY VALID STANDARD, OF EVERY TEST SPECIMEN ON THE GRID
pub no_longer_report : (s : Standard) (T : GridColour) → Specimen s T → length (report_text (judgement_of s T)) ≤ 161
no_longer_report s T h = report-length-le _ (printable h)

-- ---- of what a call comes to

-- whatever is judged, its report is no longer
abbrev pub Short : Outcome → Type 0
Short o = (j : Judgement) → o ≡ Ok j → length (report_text j) ≤ 161

-- ---- 161 BYTES FROM THE COLUMN ON ARE ENOUGH FOR EVERY REPORT: with so many, no call is refused for want of room

abbrev pub EnoughRoom : (call : (room : List ℕ) (column : ℕ) → Answer) → Type 0
EnoughRoom call = (room : List ℕ) (column : ℕ) → column + 161 ≤ length room → (call room column).number ≡ 10 → ⊥
