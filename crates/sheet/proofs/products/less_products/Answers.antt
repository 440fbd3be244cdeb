-- `products::less_products` meets its contract: both products fit, and one less the other (`Fits.antt`).
-- Assumes nothing.
use mir.Facts.{to_z-of_z}
use Rattle.sheet.proofs.Fits.{mul-fits, sub-fits}
use Rattle.sheet.proofs.products.less_products.Goals as goal

pub overflow_sub-result : goal.overflow_sub-result
overflow_sub-result c =
    simp (to_z-of_z, c.ranges.p, c.ranges.q, c.ranges.r, c.ranges.s, mul-fits c.requires.first, mul-fits c.requires.second)
    (sub-fits c.requires)

pub returns : goal.returns
returns c =
    simp (
      to_z-of_z,
      c.ranges.p,
      c.ranges.q,
      c.ranges.r,
      c.ranges.s,
      mul-fits c.requires.first,
      mul-fits c.requires.second,
      sub-fits c.requires,
    )
