-- `angle::Point::has_reached` meets its contract: the two products of the cross fit, and are compared. Assumes nothing.
use Rattle.std.proofs.Common.{◌*◌, ◌^◌, ◌≤◌, ◌<◌, ℕ, le_of_lt, mul-le-mul, arith}
use Rattle.angle.specs.Table.Rule.{sines-length, cosines-length}
use Rattle.angle.proofs.Point.has_reached.Goals as goal

-- 27 binary digits and 29
product_lt : (m n : ℕ) → m < 2 ^ 27 → n ≤ 256 * 2 ^ 20 → m * n < 2 ^ 64
product_lt m n h g = omega (arith, mul-le-mul (le_of_lt h) g)

pub bounds-table-at : goal.bounds-table-at
bounds-table-at c = rw c.args.table.is_table.sine (omega (arith, c.requires, sines-length))

pub bounds-table-at-2 : goal.bounds-table-at-2
bounds-table-at-2 c = rw c.args.table.is_table.cosine (omega (arith, c.requires, cosines-length))
