-- What a call leaves, spelled out by case. Assumes nothing.
use Rattle.std.specs.Prelude.{◌≡◌, cond, List, ◌++◌, ℕ, ◌+◌, ◌≤◌, ◌<◌, length, take, drop}
use Rattle.std.proofs.Common.{◌∙◌, le-leb}
use Rattle.std.proofs.lemmas.Bool.{lt-leb}
use Rattle.text.specs.Put.{put_at}
use Rattle.text.proofs.Theorems.Put.Laws.{put_spelled}
use Rattle.standard.specs.declared.judge.Judgement.{Judgement}
use Rattle.report.specs.Report.{report_text}
use Rattle.report.specs.Write.{has_room}

module _ (room : List ℕ) (column : ℕ) (j : Judgement) where
  -- ---- with room for the report

  pub write_number_zero :
      column + length (report_text j) ≤ length room → ◌≡◌ {A = ℕ} (cond (has_room room column j) 0 10) 0
  unfolding has_room
  write_number_zero h = rw (le-leb _ _ h)

  pub write_room_put :
      column + length (report_text j) ≤ length room →
      cond (has_room room column j) (put_at room column (report_text j)) room ≡ put_at room column (report_text j)
  unfolding has_room
  write_room_put h = rw (le-leb _ _ h)

  -- what stood before the column, the report, what stood after its end
  pub write_room_spelled :
      column + length (report_text j) ≤ length room →
      cond (has_room room column j) (put_at room column (report_text j)) room
      ≡ take column room ++ report_text j ++ drop (column + length (report_text j)) room
  write_room_spelled h = write_room_put h ∙ put_spelled room column (report_text j)

  -- ---- with too little

  pub write_number_ten :
      length room < column + length (report_text j) → ◌≡◌ {A = ℕ} (cond (has_room room column j) 0 10) 10
  unfolding has_room
  write_number_ten h = rw (lt-leb _ _ h)

  pub write_room_kept :
      length room < column + length (report_text j) →
      cond (has_room room column j) (put_at room column (report_text j)) room ≡ room
  unfolding has_room
  write_room_kept h = rw (lt-leb _ _ h)
