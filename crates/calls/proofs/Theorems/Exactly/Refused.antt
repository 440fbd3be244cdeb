-- docs/SCOPE.md 8.4: a refused call answers its number with every figure 0.0 and no name, and leaves the lent slice as
-- it stood. Assumes nothing.
use Rattle.std.specs.Prelude.{◌≡◌, refl, cond, List, [], ◌∷◌, ℕ, Ok, Err, None}
use Rattle.std.proofs.Common.{ap, ◌∙◌, ne_eqb}
use Rattle.colour.specs.Refusal.{refusal_of}
use Rattle.colour.specs.Placed.{Reading}
use Rattle.standard.specs.Figures.{no_reference, reference_answer, no_specimen, specimen_answer}
use Rattle.standard.specs.Acceptance.{Acceptance}
use Rattle.standard.specs.Judgement.{Outcome}
use Rattle.standard.specs.declared.figures.ReferenceAnswer.{ReferenceAnswer}
use Rattle.standard.specs.declared.figures.SpecimenAnswer.{SpecimenAnswer}
use Rattle.calls.specs.Calls.{Answer, Gives, writing, load_call, judge_call, ticket_call}
use Rattle.calls.specs.Runs.{Call, load, judge, ticket, slice_after}

-- ---- by value

-- what holds of a load's number holds of the answer's, and with any but 0 the figures are 0.0
pub reference-answers :
    (Q : ℕ → Type 0) (x : Acceptance) {a : ReferenceAnswer} → a ≡ reference_answer x → Q (refusal_of x) →
    Q a.number × (¬ (a.number ≡ 0) → a.figures ≡ no_reference)
unfolding reference_answer
reference-answers Q (Err n) e q = rw e (q, λ some. refl)
reference-answers Q (Ok s) e q = rw e (q, λ some. absurd (some refl))

-- and of a judgement or a ticket, with no name
pub specimen-answers :
    (Q : ℕ → Type 0) (o : Outcome) {a : SpecimenAnswer} → a ≡ specimen_answer o → Q (refusal_of o) →
    Q a.number × (¬ (a.number ≡ 0) → (a.figures ≡ no_specimen) × (a.names ≡ None))
unfolding specimen_answer
specimen-answers Q (Err n) e q = rw e (q, λ some. (refl, refl))
specimen-answers Q (Ok j) e q = rw e (q, λ some. absurd (some refl))

-- ---- as a call

written-only : (n : ℕ) (written before : List ℕ) → ¬ (n ≡ 0) → (writing n written before).bytes ≡ before
written-only n written before some = ap (λ b. cond b written before) (ne_eqb n 0 some)

pub load_kept :
    (xs : List ℕ) (formula white l c tolerance : ℕ) (r : Reading) →
    ¬ ((load_call xs formula white l c tolerance r).number ≡ 0) → (load_call xs formula white l c tolerance r).bytes ≡ xs
unfolding load_call
load_kept xs formula white l c tolerance r some = written-only _ _ xs some

pub judge-kept :
    (xs : List ℕ) (r : Reading) (room : List ℕ) (column : ℕ) → ¬ ((judge_call xs r room column).number ≡ 0) →
    (judge_call xs r room column).bytes ≡ room
unfolding judge_call
judge-kept xs r room column some = written-only _ _ room some

pub ticket-kept :
    (text room : List ℕ) (column : ℕ) → ¬ ((ticket_call text room column).number ≡ 0) →
    (ticket_call text room column).bytes ≡ room
unfolding ticket_call
ticket-kept text room column some = written-only _ _ room some

-- the same of whatever number and bytes a contract admits
pub given-kept :
    (Q : ℕ → Type 0) {answer : Answer} {n : ℕ} {ys before : List ℕ} → Gives answer n ys → Q answer.number →
    (¬ (answer.number ≡ 0) → answer.bytes ≡ before) → Q n × (¬ (n ≡ 0) → ys ≡ before)
given-kept Q g q kept = (rw g.number q, λ some. g.bytes ∙ kept (λ z. some (g.number ∙ z)))

-- ---- the station's slice after one call of a run

abbrev pub number_given : List ℕ → Call → ℕ
number_given xs (load formula white l c tolerance r) = (load_call xs formula white l c tolerance r).number
number_given xs (judge r room column) = (judge_call xs r room column).number
number_given xs (ticket text room column) = (ticket_call text room column).number

-- only a load that answers 0 changes it
pub station-kept : (xs : List ℕ) (call : Call) → ¬ (number_given xs call ≡ 0) → slice_after xs (call ∷ []) ≡ xs
unfolding slice_after
station-kept xs (load formula white l c tolerance r) some = load_kept xs formula white l c tolerance r some
station-kept xs (judge r room column) some = refl
station-kept xs (ticket text room column) some = refl
