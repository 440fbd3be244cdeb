-- DEMAND 2 (docs/SCOPE.md 2.2): DIGIT FOR DIGIT THE STEP SHEET'S, AND SO AFTER ANY RUN OF CALLS.
--
-- Coordinates, semi-axes, components, names and reports equal the step sheet. After any run of loads, judgements and
-- tickets an answer is the one that a freshly started station gives for the last accepted standard and this test
-- specimen, or the refusal if none was accepted.
--
-- `loaded`, `judged_by` and `ticket_outcome` are what load, judgement and ticket come to by value, `load_call`,
-- `judge_call` and `ticket_call` what the C entries answer and leave in the slice that they may write
-- (crates/shade/src/lib.rt). The sheet is crates/sheet/specs/Sheet.antt, the names are crates/names/specs/Names.antt,
-- the report is crates/report/specs/Report.antt; which texts are a ticket says `Consists`,
-- crates/ticket/specs/Ticket/Grammar.antt. Assumes nothing.
use Rattle.std.specs.Prelude.{◌≡◌, true, ◌↔◌, ◌⊎◌, List, ℕ, ◌<◌, Float, length, get_or, Ok, Some, None, Err}
use Rattle.std.proofs.Math.Path.{refl, ap}
use Rattle.std.proofs.Common.{sym, ◌∙◌, subst}
use Rattle.colour.specs.Conversion.{at_places}
use Rattle.colour.specs.Placed.{place, place_written, Reading}
use Rattle.colour.specs.declared.conversion.GridColour.{GridColour}
use Rattle.colour.specs.declared.placed.Values.TheVariants.{Xyz, Lab}
use Rattle.colour.specs.declared.white.White.{White}
use Rattle.sheet.specs.Settings.{formula_numbered, Tolerance}
use Rattle.sheet.specs.Sheet.{chroma_of, shift, sheet, comparison, verdict}
use Rattle.sheet.specs.declared.formula.Formula.{Formula}
use Rattle.sheet.specs.declared.formula.Formula.TheVariants.{CMC}
use Rattle.sheet.specs.declared.settings.Settings.{Settings}
use Rattle.names.specs.Names.{lightness_name, chroma_name, hue_name}
use Rattle.names.proofs.Theorems.Names.Withheld.{Achromatic}
use Rattle.cones.specs.Cones.{readings_of, no_reading}
use Rattle.colour.specs.declared.placed.Space.{Space}
use Rattle.delivery.specs.Sorted.{Sorts}
use Rattle.delivery.proofs.Theorems.Sorted.Exact.{Delivery, HandedBack as DeliveryHandedBack, sorted_by_the_sheet}
use Rattle.delivery.proofs.Theorems.Sorted.Exact.{mean, cone, DE, mean_in_range, cone-placed}
use Rattle.delivery.specs.Delivery.{difference_from}
use Rattle.delivery.specs.declared.sorted.Sorted.{Sorted}
use Rattle.text.specs.Ascii.{ascii}
use Rattle.text.specs.Bytes.{starts_with}
use Rattle.ticket.specs.Ticket.{ticket_of, Parsed}
use Rattle.ticket.proofs.Theorems.Ticket.AsWritten.{without, written, right_as_written}
use Rattle.ticket.specs.Ticket.Grammar.{Consists}
use Rattle.ticket.proofs.Theorems.Ticket.Grammar.Right.{right_exactly}
use Rattle.ticket.specs.declared.lines.Ticket.{Ticket}
use Rattle.standard.specs.Acceptance.{settings_of}
use Rattle.standard.proofs.Theorems.Acceptance.Laws.{accepted_made, valid-accepted}
use Rattle.standard.specs.Judgement.{judgement_of, outcome, Outcome}
use Rattle.standard.proofs.Theorems.Judgement.Laws.{verdict_is}
use Rattle.standard.proofs.Theorems.Judgement.Withheld.{judgement-withheld}
use Rattle.standard.specs.Figures.{reference_answer, specimen_answer}
use Rattle.standard.proofs.Theorems.Figures.Exact.{ReferenceExact, SpecimenExact}
use Rattle.standard.specs.declared.accept.Standard.{Standard}
use Rattle.standard.specs.declared.judge.Judgement.{Judgement}
use Rattle.station.specs.Record.{decode, zeros}
use Rattle.station.specs.Runs.{fresh, last_accepted}
use Rattle.calls.specs.Outcome.{loaded, judged_by, judge_faults, ticket_outcome, ticket_faults}
use Rattle.calls.proofs.Theorems.Outcome.Load.{accepted-load}
use Rattle.calls.proofs.Theorems.Outcome.Judge.{judged-said, judge-number, judge-room}
use Rattle.calls.proofs.Theorems.Outcome.Ticket.{ticket-said, ticket-number, ticket-room}
use Rattle.calls.specs.Line.{ticket_answer}
use Rattle.calls.specs.Calls.{Answer, load_call, judge_call, ticket_call, reported as reported_by}
use Rattle.calls.proofs.Theorems.Calls.Every.{place_back}
use Rattle.calls.proofs.Theorems.Calls.Exact.{load-exact, judge-exact, ticket-exact}
use Rattle.calls.proofs.Theorems.Calls.Laws.{ticket_call_is}
use Rattle.calls.proofs.Theorems.Calls.Ticket.{BothSay, once_loaded, once_stored, ticket_does_both, ticket_call_does_both}
use Rattle.calls.specs.Runs.{Call, slice_after, loads}
use Rattle.calls.proofs.Theorems.Runs.Laws.{run_load, run_judge, run_holds_last, zeros-judge}
use Rattle.demands.specs.Demand2.Reports.{Reported, reported}
pub mod Reports

-- ---- what is judged is the sheet's

-- components, names, verdict and what is withheld, each from the settings, the reference and the test specimen alone;
-- `Achromatic` is a² + b² at most 16
pub record OfTheSheet (by : Settings) (R T : GridColour) (j : Judgement) : Type 0 where
  pub differences : j.comparison.differences ≡ sheet 20 by.formula by.l by.c R T
  pub C : j.comparison.C ≡ chroma_of (at_places 20 T)
  pub lightness : j.lightness ≡ lightness_name (shift (at_places 20 R) (at_places 20 T)).L
  pub chroma : j.chroma ≡ chroma_name (shift (at_places 20 R) (at_places 20 T)).C
  pub hue : j.hue ≡ hue_name R T
  pub verdict : j.verdict ≡ verdict 20 by.tolerance (sheet 20 by.formula by.l by.c R T).DE
  pub withheld : (j.withheld ≡ true) ↔ ((by.formula ≡ CMC) × (Achromatic R ⊎ Achromatic T))

pub of_the_sheet : {j : Judgement} → j ≡ judgement_of j.standard j.test →
    OfTheSheet j.standard.settings j.standard.colour j.test j
unfolding judgement_of comparison
of_the_sheet {j} is =
    subst (λ (k : Judgement). OfTheSheet j.standard.settings j.standard.colour j.test k) (sym is)
    (record {
      differences = refl;
      C = refl;
      lightness = refl;
      chroma = refl;
      hue = refl;
      verdict = verdict_is j.standard j.test;
      withheld = judgement-withheld j.standard j.test;
    })

-- what is handed back of o, which came to the judgement j: each figure exactly its units divided by 2 ^ 20, and the
-- names
pub record HandedBack (o : Outcome) (j : Judgement) : Type 0 where
  pub figures : SpecimenExact j (specimen_answer o).figures
  pub names :
      (specimen_answer o).names
      ≡ Some (record { lightness = j.lightness; chroma = j.chroma; hue = j.hue; verdict = j.verdict })

pub handed_back :
    {o : Outcome} {j : Judgement} → o ≡ Ok j → SpecimenExact j (specimen_answer o).figures → HandedBack o j
unfolding specimen_answer
handed_back e exact = record { figures = exact; names = rw e }

-- ---- a load

-- s is what these numbers and this reading name; L*, a*, b*, C, SL, SC and SH are handed back exactly
pub record LoadedAs (formula white l c tolerance : ℕ) (r : Reading) (s : Standard) : Type 0 where
  pub settings : settings_of formula white l c tolerance ≡ Ok s.settings
  pub colour : place s.settings.white r ≡ Ok s.colour
  pub figures : ReferenceExact s (reference_answer (loaded (settings_of formula white l c tolerance) r)).figures

pub loaded_by_the_sheet :
    (formula white l c tolerance : ℕ) (r : Reading) {s : Standard} →
    loaded (settings_of formula white l c tolerance) r ≡ Ok s → LoadedAs formula white l c tolerance r s
loaded_by_the_sheet formula white l c tolerance r e =
    let of = accepted-load formula white l c tolerance r e in
    record {
      settings = of.settings;
      colour = of.colour;
      figures = load-exact (settings_of formula white l c tolerance) r e;
    }

-- ---- a judgement

-- by the standard that the slice holds, of the colour that was read in its white
pub record JudgedBy (xs : List ℕ) (r : Reading) (j : Judgement) : Type 0 where
  pub held : decode xs ≡ Some j.standard
  pub test : place j.standard.settings.white r ≡ Ok j.test
  pub sheet : OfTheSheet j.standard.settings j.standard.colour j.test j
  pub handed : HandedBack (judged_by (decode xs) r) j

-- `judged_by_the_sheet` of `proofs/Theorems/Demand2.antt` says it of whatever a judgement comes to

-- the C entries' report is that of what is judged
pub judge-report :
    (xs : List ℕ) (r : Reading) (room : List ℕ) (column : ℕ) → (judge_call xs r room column).number ≡ 0 →
    Reported (judged_by (decode xs) r) room column (judge_call xs r room column).bytes
unfolding judge_call
judge-report xs r room column e =
    reported (judge_faults (decode xs) r) _ (judge-number (decode xs) r) (judge-room (decode xs) r)
    room column e

-- ---- a ticket

-- by the settings and the reference of the ticket that the text is, of its test specimen
pub record JudgedIn (text : List ℕ) (j : Judgement) : Type 0 where
  pub ticket : Ticket
  pub consists : Consists ticket text
  pub settings : j.standard.settings ≡ ticket.settings
  pub reference : place_written ticket.settings.white ticket.reference ≡ Ok j.standard.colour
  pub test : place_written ticket.settings.white ticket.test ≡ Ok j.test
  pub sheet : OfTheSheet j.standard.settings j.standard.colour j.test j
  pub handed : HandedBack (ticket_outcome (ticket_of text)) j

-- `ticket_by_the_sheet` of `proofs/Theorems/Demand2.antt` says it of whatever a ticket comes to

pub ticket-report :
    (text room : List ℕ) (column : ℕ) → (ticket_call text room column).number ≡ 0 →
    Reported (ticket_outcome (ticket_of text)) room column (ticket_call text room column).bytes
unfolding ticket_call
ticket-report text room column e =
    reported (ticket_faults (ticket_of text)) _ (ticket-number (ticket_of text)) (ticket-room (ticket_of text))
    room column e

-- WITHOUT THE LINES L AND C, its first two lines right and r starting with tol=, a ticket comes to what it comes to
-- with l=2.000 and c=1.000 in their places. `without` and `written` are the two texts, in
-- crates/ticket/proofs/Theorems/Ticket/AsWritten.antt
module _ (f : Formula) (w : White) (r : List ℕ) (tol : starts_with (ascii "tol=") r ≡ true) where
  -- by value
  pub outcome_as_written : ticket_outcome (ticket_of (without f w r)) ≡ ticket_outcome (ticket_of (written f w r))
  unfolding ticket_outcome
  outcome_as_written = go (ticket_of (without f w r)) refl (ticket_of (written f w r)) refl
    where
      go :
          (p : Parsed) → ticket_of (without f w r) ≡ p → (q : Parsed) → ticket_of (written f w r) ≡ q
          → ticket_outcome p ≡ ticket_outcome q
      go (Ok t) e q g = ap ticket_outcome (sym ((right_as_written f w r tol).0 e) ∙ g)
      go (Err m) e (Ok t) g = ap ticket_outcome (sym e ∙ (right_as_written f w r tol).1 g)
      go (Err m) e (Err n) g = refl

  -- and over slices
  pub call_as_written :
      (room : List ℕ) (column : ℕ) → ticket_call (without f w r) room column ≡ ticket_call (written f w r) room column
  call_as_written room column =
      ticket_call_is (without f w r) room column
      ∙ ap (λ (o : Outcome). reported_by o room column) outcome_as_written
      ∙ sym (ticket_call_is (written f w r) room column)

-- A TICKET DOES BOTH FROM A FRESH STATION: whatever load and judgement say the same as it, it comes to the load's
-- refusal, or else to what the judgement comes to by the station which that load leaves; by value
module _
    {t : Ticket} {formula white l c tolerance : ℕ} {r q : Reading} (same : BothSay t formula white l c tolerance r q)
  where
    abbrev load_answer : Answer
    load_answer = load_call zeros formula white l c tolerance r

    pub ticket_is_both :
        ticket_outcome (Ok t)
        ≡ once_loaded (loaded (settings_of formula white l c tolerance) r) (judged_by (decode load_answer.bytes) q)
    ticket_is_both = ticket_does_both same

    -- and over slices
    pub ticket_call_is_both :
        (text : List ℕ) → Consists t text → (room : List ℕ) (column : ℕ) →
        ticket_call text room column ≡ once_stored load_answer (judge_call load_answer.bytes q room column) room
    ticket_call_is_both text is = ticket_call_does_both same text ((right_exactly text t).1 is)

-- ---- after any run of calls, cs being the calls from zeros on

module _ (cs : List Call) where
  -- THE SLICE HOLDS THE LAST ACCEPTED STANDARD, or none where none was
  pub last_is_held : decode (slice_after zeros cs) ≡ last_accepted (loads cs)
  last_is_held = run_holds_last cs

  -- BY VALUE
  pub judged_as_fresh : (r : Reading) → judged_by (decode (slice_after zeros cs)) r ≡ judged_by (last_accepted (loads cs)) r
  judged_as_fresh r = ap (λ station. judged_by station r) last_is_held

  -- AND OVER SLICES: the next load and the next judgement answer and write what a freshly started station's would
  pub load_as_fresh :
      (formula white l c tolerance : ℕ) (r : Reading) →
      load_call (slice_after zeros cs) formula white l c tolerance r
      ≡ load_call (fresh (last_accepted (loads cs))) formula white l c tolerance r
  load_as_fresh = run_load cs

  pub judge_as_fresh :
      (r : Reading) (room : List ℕ) (column : ℕ) →
      judge_call (slice_after zeros cs) r room column ≡ judge_call (fresh (last_accepted (loads cs))) r room column
  judge_as_fresh = run_judge cs

  -- OR THE REFUSAL IF NONE WAS ACCEPTED: 9, and the room as it was
  pub none_accepted :
      last_accepted (loads cs) ≡ None → (r : Reading) (room : List ℕ) (column : ℕ) →
      judge_call (slice_after zeros cs) r room column ≡ record { number = 9; bytes = room }
  unfolding fresh
  none_accepted none r room column =
      run_judge cs r room column ∙ rw none (zeros-judge r room column)

-- ---- a sort

-- what an accepted sort hands back and writes is the sheet's, of the mean and each cone: `Delivery` has the white and
-- the colours of all cones, `HandedBack` the mean, each cone's DE, the entries past the count and the farthest, in
-- crates/delivery/proofs/Theorems/Sorted/Exact.antt. No station is read or written
pub sorted_as :
    (k : Space) (white l c : ℕ) (xs ys zs de : List Float) {r : Sorted} {left : List Float} →
    Sorts k white l c xs ys zs de r left → r.number ≡ 0 →
    (d : Delivery k white l c xs ys zs de) × DeliveryHandedBack d r left
sorted_as k white l c xs ys zs de g none = sorted_by_the_sheet k white l c xs ys zs de g none

-- its mean, as it was handed back, is read as the mean in any white
pub mean_as_a_standard :
    (k : Space) (white l c : ℕ) (xs ys zs de : List Float) {r : Sorted} {left : List Float}
    (d : Delivery k white l c xs ys zs de) → DeliveryHandedBack d r left →
    (w : White) → place w (Lab r.lightness r.a r.b) ≡ Ok (mean d)
mean_as_a_standard k white l c xs ys zs de d h w =
    rw (h.lightness.is, h.a.is, h.b.is) (place_back w (mean d) (mean_in_range d))

-- under CMC with the same white, l and c
module _ (k : Space) (white l c : ℕ) (xs ys zs de : List Float) (d : Delivery k white l c xs ys zs de) (tolerance : ℕ)
  where
    abbrev pub mean_standard : Standard
    mean_standard =
        record {
          settings = record { formula = CMC; white = d.in_white; l = l; c = c; tolerance = tolerance };
          colour = mean d;
        }

    -- it is loaded as a standard, by any tolerance in its range
    pub mean-loaded :
        {r : Sorted} {left : List Float} → DeliveryHandedBack d r left → Tolerance tolerance →
        loaded (settings_of 3 white l c tolerance) (Lab r.lightness r.a r.b) ≡ Ok mean_standard
    unfolding loaded settings_of formula_numbered
    mean-loaded h in_range =
        rw (d.white_is, mean_as_a_standard k white l c xs ys zs de d h d.in_white)
        (valid-accepted mean_standard
        (record {
          l = d.call.lightness;
          c = d.call.chroma;
          tolerance = in_range;
          colour = mean_in_range d;
        }))

    -- and by it the reading of cone i is judged, with the DE of the sort
    module _ (i : ℕ) (few : i < length xs) where
      pub judged_by_the_mean :
          judged_by (Some mean_standard) (get_or (readings_of k xs ys zs) i no_reading)
          ≡ Ok (judgement_of mean_standard (cone d i))
      unfolding judged_by outcome
      judged_by_the_mean = rw (cone-placed d i few)

      pub judged-DE : (judgement_of mean_standard (cone d i)).comparison.differences.DE ≡ DE d i
      unfolding judgement_of comparison difference_from
      judged-DE = refl
