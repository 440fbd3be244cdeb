-- `angle::Point::search`: with so many binary digits left, the degrees are at least those found and less than 2 ^ left
-- more. Assumes nothing.
use Rattle.std.proofs.Common.{ℕ, ◌+◌, ◌^◌, ◌≤◌, ◌<◌}
use Rattle.angle.specs.Angle.{degrees_ahead}
use Rattle.angle.proofs.Point.search.Given as goal

pub record Narrowed (all degrees left : ℕ) : Type 0 where
  pub from : degrees ≤ all
  pub before : all < degrees + 2 ^ left

abbrev pub invariant-loop-left : goal.invariant-loop-left
invariant-loop-left l = Narrowed (degrees_ahead l.self.x l.self.y) l.degrees l.left
