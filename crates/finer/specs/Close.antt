-- Sections 3 and 4 of the argument, what they come to: of two loose sheets s and t of the same colours, no semi-axis
-- of s is above that of t by more than a ten-thousandth, and SC is at most four times SH. The core goes by this
-- alone, so it serves the three formulas; and as s and t are any two, it serves both directions. Assumes nothing.
use Rattle.std.specs.Prelude.{◌*◌, ◌≤◌}
use Rattle.finer.specs.Loose.{Quantities}
pub mod Chroma
pub mod Hue
pub mod SemiAxes

pub record Close (s t : Quantities) : Type 0 where
  pub SL : 10000 * s.SL ≤ 10001 * t.SL
  pub SC : 10000 * s.SC ≤ 10001 * t.SC
  pub SH : 10000 * s.SH ≤ 10001 * t.SH
  pub SC≤4SH : s.SC ≤ 4 * t.SH
