-- `Point::of` meets its contract: the sum of squares fits, and its root is line 1's. Assumes nothing.
use Rattle.std.proofs.Common.{◌≡◌, rules}
use Rattle.sheet.specs.Sheet.{chroma}
use Rattle.sheet.proofs.Fits.{a_back, b_back}
use Rattle.sheet.proofs.Theorems.Sheet.Laws.{chroma-lt}
use Rattle.semi_axes.proofs.chroma.Point.of.Goals as goal

pub invariant_of-result : goal.invariant_of-result
unfolding chroma
invariant_of-result c =
    let h = c.requires in
    let is : c.square_root.result ≡ chroma c.args.c.a.0 c.args.c.b.0 = search rules in
    record {
      a_on_grid = rw (a_back h) h.a;
      b_on_grid = rw (b_back h) h.b;
      is_chroma = rw (a_back h, b_back h) is;
      C_small = rw is (chroma-lt c.args.c.a.0 c.args.c.b.0 (record { first = h.a; second = h.b }));
    }
