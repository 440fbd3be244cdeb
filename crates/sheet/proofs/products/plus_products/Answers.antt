-- `products::plus_products` meets its contract: both products and their sum fit (`Fits.antt`). Assumes nothing.
use mir.Facts.{to_z-of_z}
use Rattle.sheet.proofs.Fits.{mul-fits, add-fits}
use Rattle.sheet.proofs.products.plus_products.Goals as goal

pub overflow_add-result : goal.overflow_add-result
overflow_add-result c =
    simp (to_z-of_z, c.ranges.p, c.ranges.q, c.ranges.r, c.ranges.s, mul-fits c.requires.first, mul-fits c.requires.second)
    (add-fits c.requires)

pub returns : goal.returns
returns c =
    simp (
      to_z-of_z,
      c.ranges.p,
      c.ranges.q,
      c.ranges.r,
      c.ranges.s,
      mul-fits c.requires.first,
      mul-fits c.requires.second,
      add-fits c.requires,
    )
