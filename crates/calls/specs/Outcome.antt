-- docs/SCOPE.md 8.3, 9.4: what a load, a judgement and a ticket come to, and the faults that each can have.
-- Assumes nothing.
use Rattle.std.specs.Prelude.{true, List, [], ◌∷◌, ◌++◌, ℕ, Result, Ok, Err, Option, Some, None}
use Rattle.colour.specs.Refusal.{refusal_of}
use Rattle.colour.specs.Placed.{place, place_written, Placed, Reading}
use Rattle.colour.specs.White.{white_numbered}
use Rattle.colour.specs.declared.white.White.{White}
use Rattle.sheet.specs.Settings.{formula_numbered}
use Rattle.ticket.specs.Ticket.{Parsed}
use Rattle.standard.specs.Refusals.{Fault, fault, at_text, at_station, at_reference, at_test}
use Rattle.standard.specs.Acceptance.{number_faults, range_faults, reading_fault, accept_faults, acceptance, Acceptance}
use Rattle.standard.specs.Judgement.{outcome, Outcome}
use Rattle.sheet.specs.declared.settings.Settings.{Settings}
use Rattle.colour.specs.declared.refusal.Refusal.{Refusal}
use Rattle.standard.specs.declared.accept.Standard.{Standard}
use Rattle.colour.specs.declared.refusal.Refusal.TheVariants as Why
pub mod Each

-- ---- a load

-- the reference is read in the white of the settings
unfoldable pub loaded : Result Settings Refusal → Reading → Acceptance
loaded (Err n) r = Err n
loaded (Ok s) r = acceptance s (place s.white r)

-- where there is no such white, there is none to read in
abbrev pub read_in : Option White → Reading → ℕ
read_in (Some w) r = refusal_of (place w r)
read_in None r = 0

unfoldable pub load_faults : (formula white l c tolerance : ℕ) → Reading → List Fault
load_faults formula white l c tolerance r =
    number_faults (formula_numbered formula) (white_numbered white)
    ++ (record { place = at_reference; number = read_in (white_numbered white) r } ∷ range_faults l c tolerance)

-- ---- a judgement

-- the test specimen is read in the white of the standard
unfoldable pub judged_by : Option Standard → Reading → Outcome
judged_by None r = Err Why.NoStandard
judged_by (Some s) r = outcome s (place s.settings.white r)

unfoldable pub judge_faults : Option Standard → Reading → List Fault
judge_faults None r = fault at_station 9 true ∷ []
judge_faults (Some s) r = reading_fault at_test (place s.settings.white r) ∷ []

-- ---- a ticket: a load, and then a judgement by what it brings

abbrev pub judged_after : Acceptance → (test : Placed) → Outcome
judged_after (Err n) test = Err n
judged_after (Ok s) test = outcome s test

unfoldable pub ticket_outcome : Parsed → Outcome
ticket_outcome (Err e) = Err Why.Ticket
ticket_outcome (Ok t) =
    judged_after (acceptance t.settings (place_written t.settings.white t.reference))
    (place_written t.settings.white t.test)

-- a wrong text brings nothing to find another fault in, and a right one names no formula or white but those there are
unfoldable pub ticket_faults : Parsed → List Fault
ticket_faults (Err e) = fault at_text 7 true ∷ []
ticket_faults (Ok t) =
    reading_fault at_test (place_written t.settings.white t.test)
    ∷ accept_faults t.settings (place_written t.settings.white t.reference)
