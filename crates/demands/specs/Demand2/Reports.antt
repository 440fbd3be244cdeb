-- Where a call that reports answers 0, something was judged, and the room is left with its report. Assumes nothing.
use Rattle.std.specs.Prelude.{List, ◌∷◌, ◌≡◌, refl, ℕ, Ok, Err}
use Rattle.std.proofs.Common.{sym, ap, ◌∙◌}
use Rattle.colour.specs.Refusal.{refusal_of}
use Rattle.colour.proofs.Theorems.Refusal.{number-some}
use Rattle.text.specs.Put.{put_at}
use Rattle.report.specs.Report.{report_text}
use Rattle.standard.specs.Refusals.{Fault, number_at, refusal, at_room}
use Rattle.standard.proofs.Theorems.Refusals.Laws.{first_none, refusal-room}
use Rattle.standard.specs.declared.judge.Judgement.{Judgement}
use Rattle.standard.specs.Judgement.{Outcome}
use Rattle.calls.specs.Calls.{room_fault, with_report, writing}

-- o came to a judgement, and the room is left with its report from the column on, every other byte as it was
pub record Reported (o : Outcome) (room : List ℕ) (column : ℕ) (left : List ℕ) : Type 0 where
  pub judgement : Judgement
  pub judged : o ≡ Ok judgement
  pub written : left ≡ put_at room column (report_text judgement)

-- with no fault, and none of the room, something was judged
module _ (fs : List Fault) (o : Outcome) (number : refusal_of o ≡ refusal fs) (last : number_at fs at_room ≡ 0) where
  pub reported :
      (room : List ℕ) (column : ℕ) →
      refusal (room_fault o room column ∷ fs) ≡ 0 →
      Reported o room column
      (writing (refusal (room_fault o room column ∷ fs)) (with_report o room column) room).bytes
  reported room column none = rw none (go o refl)
    where
      before : refusal_of o ≡ 0
      before = number ∙ (first_none (refusal fs) _ (sym (refusal-room fs _ last) ∙ none)).0

      go : (q : Outcome) → o ≡ q → Reported o room column (with_report o room column)
      go (Err m) e = absurd (number-some m (sym (ap refusal_of e) ∙ before))
      go (Ok j) e = record { judgement = j; judged = e; written = rw e }
