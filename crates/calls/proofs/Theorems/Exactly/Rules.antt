-- The first rule of a reading, of settings with a reference, and of a room for a report. Assumes nothing.
use Rattle.std.specs.Prelude.{◌≡◌, refl, Bool, true, false, not, cond, List, [], ◌∷◌, ◌↔◌, ℕ, ◌+◌, ◌<◌, leb, length, Ok, Err}
use Rattle.std.proofs.Common.{ap, subst, not-le_of_lt, arith, leb-true, leb-false}
use Rattle.colour.specs.Refusal.{refusal_of}
use Rattle.colour.specs.declared.refusal.Refusal.{Refusal}
use Rattle.colour.specs.Placed.Exactly.{Read, not_finite, out, beyond, at}
use Rattle.colour.specs.Placed.{Placed}
use Rattle.sheet.specs.declared.settings.Settings.{Settings}
use Rattle.report.specs.Report.{report_text}
use Rattle.report.specs.Write.{has_room}
use Rattle.standard.specs.Acceptance.{Acceptance}
use Rattle.standard.specs.declared.judge.Judgement.{Judgement}
use Rattle.standard.specs.Judgement.{Outcome}
use Rattle.station.specs.Record.Exactly.{FactorsOut, ToleranceOut}
use Rattle.station.specs.Record.Exactly.Accepting.{Accepts, factors_out, tolerance_out, reference_out, accepts}
use Rattle.calls.specs.Calls.{room_fault}
use Rattle.calls.specs.Exactly.{RoomShort}
use Rattle.calls.specs.Exactly.First.{Rule, rule, First, here, later}

module _ {N O B : Type 0} where
  pub reading_first : {p : Placed} → Read N O B p → First (rule 5 N ∷ rule 6 O ∷ rule 8 B ∷ []) (refusal_of p)
  reading_first (not_finite n) = here n
  reading_first (out n o) = later n (here o)
  reading_first (beyond n o b) = later n (later o (here b))
  reading_first (at c n o b) = later n (later o (later b First.none))

pub written_first : {O B : Type 0} {p : Placed} → Read ⊥ O B p → First (rule 6 O ∷ rule 8 B ∷ []) (refusal_of p)
written_first (not_finite n) = absurd n
written_first (out n o) = here o
written_first (beyond n o b) = later o (here b)
written_first (at c n o b) = later o (later b First.none)

pub accept_first :
    {s : Settings} {p : Placed} {a : Acceptance} {rs : List Rule} → Accepts s p a → First rs (refusal_of p) →
    First (rule 3 (FactorsOut s.l s.c) ∷ rule 4 (ToleranceOut s.tolerance) ∷ rs) (refusal_of a)
accept_first (factors_out h) f = here h
accept_first (tolerance_out g h) f = later g (here h)
accept_first {rs = rs} (reference_out g t n e) f = later g (later t (subst (First rs) (ap refusal_of e) f))
accept_first {rs = rs} (accepts g t c e) f = later g (later t (subst (First rs) (ap refusal_of e) f))

pub same : {A : Type 0} → A ↔ A
same = (λ a. a, λ a. a)

judged_is : {j k : Judgement} → ◌≡◌ {A = Outcome} (Ok j) (Ok k) → k ≡ j
judged_is e = cc

refused_not : {n : Refusal} {j : Judgement} → ◌≡◌ {A = Outcome} (Err n) (Ok j) → ⊥
refused_not e = let no : ◌≡◌ {A = ℕ} 0 1 = cc in omega arith

-- where something is judged, the room may be too short for its report
pub room_first :
    (o : Outcome) (room : List ℕ) (column : ℕ) →
    First (rule 10 (RoomShort o room column) ∷ []) (room_fault o room column).number
unfolding has_room
room_first (Err n) room column =
    later {r = rule 10 (RoomShort (Err n) room column)} (λ h. refused_not h.1) First.none
room_first (Ok j) room column = go (leb (column + length (report_text j)) (length room)) refl
  where
    last : Rule
    last = rule 10 (RoomShort (Ok j) room column)

    go : (b : Bool) → leb (column + length (report_text j)) (length room) ≡ b → First (last ∷ []) (cond (not b) 10 0)
    go false e = here {r = last} (j, refl, leb-false _ _ e)
    go true e = later {r = last} (λ h. not-le_of_lt (short h) (leb-true _ _ e)) First.none
      where
        short : RoomShort (Ok j) room column → length room < column + length (report_text j)
        short h = subst (λ (k : Judgement). length room < column + length (report_text k)) (judged_is h.1) h.2
