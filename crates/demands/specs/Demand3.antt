-- DEMAND 3 (docs/SCOPE.md 2.3): NO FINER SHEET CHANGES A VERDICT.
--
-- For any two colours of the grid, l and c from 0.5 to 10 and a tolerance from 0.1 to 10, under each formula: with the
-- sheet carried to any n binary places from 20 up, a pass stays under the tolerance and a fail over it; near is said
-- exactly when our DE lies within 0.002 of the tolerance; and where our DE is at most 10, no finer sheet moves it by
-- 0.002 or more.
--
-- DE n is the DE of the step sheet at n places (crates/sheet/specs/Sheet.antt), of which the station works out DE 20.
-- It counts units of 2 ^ -n; l, c and the tolerance count thousandths. So in thousandths of a unit of 2 ^ -n DE is
-- 1000 * DE n, the tolerance is tolerance * 2 ^ n, and 0.002 is 2 * 2 ^ n. The argument is in crates/finer;
-- docs/FINER.md is its guide. Assumes nothing.
use Rattle.std.specs.Prelude.{◌≡◌, refl, List, ℕ, ◌-◌, ◌*◌, ◌^◌, ◌≤◌, ◌<◌, Float, length, Ok}
use Rattle.std.proofs.Common.{sym, subst, arith}
use Rattle.rounding.specs.Nearest.{apart}
use Rattle.colour.specs.Conversion.Ranges.{OnGrid}
use Rattle.colour.specs.declared.conversion.GridColour.{GridColour}
use Rattle.colour.specs.Placed.{Reading}
use Rattle.sheet.specs.Settings.{Factor, Tolerance}
use Rattle.sheet.specs.Sheet.{sheet, verdict}
use Rattle.sheet.specs.declared.formula.Formula.{Formula}
use Rattle.sheet.specs.declared.formula.Formula.TheVariants.{CMC}
use Rattle.sheet.specs.declared.verdict.Verdict.TheVariants.{Near, Pass, Fail}
use Rattle.finer.specs.Finer.{VerdictKept}
use Rattle.finer.proofs.Theorems.Finer.{no_finer_sheet_changes_a_verdict}
use Rattle.colour.specs.declared.placed.Space.{Space}
use Rattle.delivery.specs.Delivery.{difference_from}
use Rattle.delivery.proofs.Theorems.Sorted.Exact.{Delivery, mean, cone, DE as DE-of, cone_on_grid, mean_in_range}
use Rattle.ticket.specs.Ticket.{ticket_of}
use Rattle.standard.specs.Judgement.{judgement_of, Specimen}
use Rattle.standard.proofs.Theorems.Judgement.Laws.{verdict_is}
use Rattle.standard.specs.declared.judge.Judgement.{Judgement}
use Rattle.station.specs.Record.{decode}
use Rattle.calls.specs.Outcome.{judged_by, ticket_outcome}
use Rattle.calls.proofs.Theorems.Outcome.Judge.{judged-said}
use Rattle.calls.proofs.Theorems.Outcome.Ticket.{ticket-said}

-- ---- of any two colours

module _
    (formula : Formula) {l c tolerance : ℕ} {R T : GridColour}
    (l_in : Factor l) (c_in : Factor c) (tolerance-in : Tolerance tolerance) (R-on : OnGrid R) (T-on : OnGrid T)
  where
    abbrev DE : ℕ → ℕ
    DE n = (sheet n formula l c R T).DE

    kept : (n : ℕ) → 20 ≤ n → VerdictKept n tolerance (DE 20) (DE n)
    kept n from20 =
        no_finer_sheet_changes_a_verdict formula
        (record { lightness = l_in; chroma = c_in; reference = R-on; specimen = T-on }) tolerance-in n from20

    -- A PASS STAYS UNDER THE TOLERANCE
    pub a_pass_stays_under : verdict 20 tolerance (DE 20) ≡ Pass → (n : ℕ) → 20 ≤ n → 1000 * DE n < tolerance * 2 ^ n
    a_pass_stays_under said n from20 = (kept n from20).passes said

    -- AND A FAIL OVER IT
    pub a_fail_stays_over : verdict 20 tolerance (DE 20) ≡ Fail → (n : ℕ) → 20 ≤ n → tolerance * 2 ^ n < 1000 * DE n
    a_fail_stays_over said n from20 = (kept n from20).fails said

    -- NEAR IS SAID EXACTLY WHEN OUR DE LIES WITHIN 0.002 OF THE TOLERANCE, both ends counted
    pub near_is_within : verdict 20 tolerance (DE 20) ≡ Near → apart (1000 * DE 20) (tolerance * 2 ^ 20) ≤ 2 * 2 ^ 20
    near_is_within = (kept 20 (omega arith)).near_within

    pub within_is_near : apart (1000 * DE 20) (tolerance * 2 ^ 20) ≤ 2 * 2 ^ 20 → verdict 20 tolerance (DE 20) ≡ Near
    within_is_near = (kept 20 (omega arith)).within-near

    -- WHERE OUR DE IS AT MOST 10, NO FINER SHEET MOVES IT BY 0.002 OR MORE
    pub moves_by_less :
        DE 20 ≤ 10 * 2 ^ 20 → (n : ℕ) → 20 ≤ n → 1000 * apart (DE n) (2 ^ (n - 20) * DE 20) < 2 * 2 ^ n
    moves_by_less small n from20 = (kept n from20).unmoved small

-- ---- of every verdict that is given

-- the verdict is the sheet's at 20 places, and all that it is given by lies in the ranges above
pub record Given (j : Judgement) : Type 0 where
  pub verdict_is :
      j.verdict
      ≡ verdict 20 j.standard.settings.tolerance
      (sheet 20 j.standard.settings.formula j.standard.settings.l j.standard.settings.c
      j.standard.colour j.test).DE
  pub l : Factor j.standard.settings.l
  pub c : Factor j.standard.settings.c
  pub tolerance : Tolerance j.standard.settings.tolerance
  pub R : OnGrid j.standard.colour
  pub T : OnGrid j.test

given : {j : Judgement} → j ≡ judgement_of j.standard j.test → Specimen j.standard j.test → Given j
unfolding judgement_of
given {j} is asked =
    subst (λ (k : Judgement). Given k) (sym is)
    (record {
      verdict_is = verdict_is j.standard j.test;
      l = asked.standard.l;
      c = asked.standard.c;
      tolerance = asked.standard.tolerance;
      R = asked.standard.colour;
      T = asked.test;
    })

-- A JUDGEMENT'S, whatever the slice holds and whatever is read
pub judgement-given : (xs : List ℕ) (r : Reading) {j : Judgement} → judged_by (decode xs) r ≡ Ok j → Given j
judgement-given xs r e = let said = judged-said xs r e in given said.is said.asked

-- A TICKET'S, whatever its text is
pub ticket-given : (text : List ℕ) {j : Judgement} → ticket_outcome (ticket_of text) ≡ Ok j → Given j
ticket-given text e = let said = ticket-said (ticket_of text) e in given said.is said.asked

-- ---- of every cone that is sorted

-- the sheet of cone i against the mean, at n places
abbrev pub cone_de :
    {k : Space} {white l c : ℕ} {xs ys zs de : List Float} → Delivery k white l c xs ys zs de → (i n : ℕ) → ℕ
cone_de {l = l} {c = c} d i n = (sheet n CMC l c (mean d) (cone d i)).DE

-- A CONE'S, against the mean as it stands on the grid, whatever is sorted, and at any tolerance that it is held to
pub cone-kept :
    {k : Space} {white l c : ℕ} {xs ys zs de : List Float} (d : Delivery k white l c xs ys zs de) (i : ℕ) →
    i < length xs → {tolerance : ℕ} → Tolerance tolerance → (n : ℕ) → 20 ≤ n →
    VerdictKept n tolerance (cone_de d i 20) (cone_de d i n)
cone-kept d i few in_range n from20 =
    kept CMC d.call.lightness d.call.chroma in_range (mean_in_range d) (cone_on_grid d i few) n from20

-- SO WHERE ITS DE IS AT MOST 10, NO FINER SHEET MOVES IT BY 0.002 OR MORE
pub cone_moves_by_less :
    {k : Space} {white l c : ℕ} {xs ys zs de : List Float} (d : Delivery k white l c xs ys zs de) (i : ℕ) →
    i < length xs → cone_de d i 20 ≤ 10 * 2 ^ 20 → (n : ℕ) → 20 ≤ n →
    1000 * apart (cone_de d i n) (2 ^ (n - 20) * cone_de d i 20) < 2 * 2 ^ n
cone_moves_by_less d i few small n from20 =
    (cone-kept d i few {tolerance = 1000} (record { low = omega arith; high = omega arith }) n from20).unmoved small

-- and the DE that a sort hands back of cone i is this one at 20 places (`sorted_as`, Demand2.antt)
pub handed_back_at_20 :
    {k : Space} {white l c : ℕ} {xs ys zs de : List Float} (d : Delivery k white l c xs ys zs de) (i : ℕ) →
    DE-of d i ≡ cone_de d i 20
unfolding difference_from
handed_back_at_20 d i = refl
