-- docs/SCOPE.md 10.2: a report put into a lent room from a column on. Laws are in `Write/Laws.antt`. Assumes nothing.
use Rattle.std.specs.Prelude.{◌≡◌, Bool, cond, List, ℕ, ◌+◌, leb, length}
use Rattle.text.specs.Put.{put_at}
use Rattle.standard.specs.declared.judge.Judgement.{Judgement}
use Rattle.report.specs.Report.{report_text}
pub mod Laws

-- whether the report ends within the room
unfoldable pub has_room : (room : List ℕ) (column : ℕ) → Judgement → Bool
has_room room column j = leb (column + length (report_text j)) (length room)

-- what is answered and left: 0 and the room with the report from the column on, every other byte as it was; or 10 and
-- the room unchanged
pub record Reported (room : List ℕ) (column : ℕ) (j : Judgement) (number : ℕ) (after : List ℕ) : Type 0 where
  pub number_is : number ≡ cond (has_room room column j) 0 10
  pub room_is : after ≡ cond (has_room room column j) (put_at room column (report_text j)) room
