-- `roots::cube_takes_over` meets its contract: the two cubes are multiplied out. Assumes nothing.
use Rattle.std.proofs.Common.{◌≡◌, ℕ, ◌+◌, ◌*◌, ◌^◌, pow-suc, arith}
use Rattle.std.proofs.Math.Nat.{pow-zero}
use Rattle.rounding.proofs.roots.cube_takes_over.Goals as goal

cube : (a : ℕ) → a ^ 3 ≡ a * a * a
cube a = rw (pow-suc a 2, pow-suc a 1, pow-suc a 0, pow-zero a) (omega arith)

pub returns : goal.returns
returns c = rw (cube (c.args.n + 1), cube c.args.n) (omega arith)
