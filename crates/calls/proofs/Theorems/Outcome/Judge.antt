-- What callers use of what a judgement comes to: each way out; its number is that of its first fault; and whatever is
-- judged was judged by a valid standard, of a test specimen on the grid. Assumes nothing.
use Rattle.std.specs.Prelude.{◌≡◌, refl, List, ℕ, Ok, Err, Option, Some, None}
use Rattle.std.proofs.Common.{sym, ap, ◌∙◌, arith}
use Rattle.colour.specs.Refusal.{number_of_refusal, refusal_of}
use Rattle.colour.proofs.Theorems.Refusal.{number-some}
use Rattle.colour.specs.declared.refusal.Refusal.{Refusal}
use Rattle.colour.specs.Placed.{place, Placed, Reading}
use Rattle.colour.proofs.Theorems.Placed.Laws.{place_on_grid}
use Rattle.standard.specs.Refusals.{at_room, number_at, first_of, refusal}
use Rattle.standard.proofs.Theorems.Refusals.Laws.{first_zero}
use Rattle.standard.specs.Judgement.{judgement_of, outcome, Specimen, Judgeable, Outcome}
use Rattle.standard.proofs.Theorems.Judgement.Laws.{Says, judged-says, outcome-number}
use Rattle.standard.specs.declared.accept.Standard.{Standard}
use Rattle.standard.specs.declared.judge.Judgement.{Judgement}
use Rattle.station.specs.Record.{decode}
use Rattle.station.specs.Record.Back.{decode-stands}
use Rattle.calls.specs.Outcome.{judged_by, judge_faults}
use Rattle.colour.specs.declared.refusal.Refusal.TheVariants as Why

-- each way out
module _ (station : Option Standard) (r : Reading) {x : Option Standard} (e : x ≡ station) where
  pub judge-empty : x ≡ None → Err Why.NoStandard ≡ judged_by station r
  unfolding judged_by
  judge-empty h = rw (← e, h)

  pub judge-held :
      {s : Standard} {p : Placed} {o : Outcome} → x ≡ Some s → p ≡ place s.settings.white r → o ≡ outcome s p →
      o ≡ judged_by station r
  unfolding judged_by
  judge-held h hp ho = rw (← e, h, ho, hp)

pub held-judgeable :
    (xs : List ℕ) (r : Reading) {s : Standard} {p : Placed} → decode xs ≡ Some s → p ≡ place s.settings.white r →
    Judgeable s p
held-judgeable xs r e hp =
    record { standard = (decode-stands xs e).valid; test = λ c h. place_on_grid _ r c (sym hp ∙ h) }

-- ---- its number

pub judge-number : (station : Option Standard) (r : Reading) → refusal_of (judged_by station r) ≡ refusal (judge_faults station r)
unfolding judged_by judge_faults refusal number_at first_of
judge-number None r = refl
judge-number (Some s) r = outcome-number s _ ∙ sym (first_zero _)

pub judge-room : (station : Option Standard) (r : Reading) → number_at (judge_faults station r) at_room ≡ 0
unfolding judge_faults number_at
judge-room None r = refl
judge-room (Some s) r = refl

-- what refuses a test specimen has a number
pub outcome_some : (s : Standard) (p : Placed) {e : Refusal} → outcome s p ≡ Err e → number_of_refusal e ≡ 0 → ⊥
outcome_some s p {e} h z = number-some e z

-- a refused judgement has a number
pub judge_some :
    (station : Option Standard) (r : Reading) {e : Refusal} → judged_by station r ≡ Err e → number_of_refusal e ≡ 0 → ⊥
judge_some station r {e} h z = number-some e z

-- ---- what is judged

-- j is said by what a slice holds, of the colour that was read
pub record SaidOf (xs : List ℕ) (r : Reading) (j : Judgement) : Type 0 where
  pub held : decode xs ≡ Some j.standard
  pub read : place j.standard.settings.white r ≡ Ok j.test
  pub is : j ≡ judgement_of j.standard j.test
  pub asked : Specimen j.standard j.test

holds-said :
    (xs : List ℕ) (s : Standard) (r : Reading) {j : Judgement} → decode xs ≡ Some s →
    Says s (place s.settings.white r) j → SaidOf xs r j
holds-said xs s r {j} held says =
    let same = says.standard in
    let now : decode xs ≡ Some j.standard = held ∙ ap Some same in
    let read : place j.standard.settings.white r ≡ Ok j.test =
    ap (λ (t : Standard). place t.settings.white r) (sym same) ∙ says.placed in
    record {
      held = now;
      read = read;
      is = says.is;
      asked = record { standard = (decode-stands xs now).valid; test = place_on_grid _ r j.test read };
    }

pub judged-said : (xs : List ℕ) (r : Reading) {j : Judgement} → judged_by (decode xs) r ≡ Ok j → SaidOf xs r j
unfolding judged_by
judged-said xs r {j} = go (decode xs) refl
  where
    go : (station : Option Standard) → decode xs ≡ station → judged_by station r ≡ Ok j → SaidOf xs r j
    go None e h = let no : ◌≡◌ {A = ℕ} 0 1 = cc in absurd (omega arith)
    go (Some s) e h = holds-said xs s r e (judged-says s (place s.settings.white r) h)
