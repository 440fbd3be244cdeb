-- `comparison::comparison_of` meets its contract: the sheet, a part a call; the reference's C is that of its semi-axes.
-- Assumes nothing.
use Rattle.std.proofs.Common.{ap, ◌∙◌, rules}
use Rattle.colour.specs.Conversion.{at_places}
use Rattle.sheet.specs.declared.semi_axes.SemiAxes.{SemiAxes}
use Rattle.sheet.proofs.Theorems.Sheet.Laws.{semi_axes_C}
use Rattle.sheet.proofs.Theorems.Sheet.Bounds.{semi_axes_of_grid, shift_of_grid, factor_under-fits, sheet-DE-lt}
use Rattle.comparison.proofs.FromParts.{sheet_is, comparison_is}
use Rattle.comparison.proofs.comparison.comparison_of.Goals as goal

pub invariant_of-reference : goal.invariant_of-reference
invariant_of-reference c =
    record {
      on_grid = c.requires.reference;
      is_chroma =
          ap (λ (x : SemiAxes). x.C) c.semi_axes_of-s.ensures
          ∙ semi_axes_C 20 c.args.formula (at_places 20 c.args.r);
    }

pub differences_of-d-requires : goal.differences_of-d-requires
differences_of-d-requires c =
    let h = c.requires in
    let f = c.args.formula in (
      rw c.factor-lf.ensures (factor_under-fits f h.lightness),
      rw c.factor-cf.ensures (factor_under-fits f h.chroma),
      rw c.semi_axes_of-s.ensures (semi_axes_of_grid f h.reference),
      rw c.shift_to-z.ensures (shift_of_grid h.reference h.specimen),
    )

pub difference-scaled-requires : goal.difference-scaled-requires
difference-scaled-requires c =
    let a = c.args in
    let is =
    sheet_is a.formula a.l a.c a.r a.t c.semi_axes_of-s.ensures c.shift_to-z.ensures c.factor-lf.ensures
    c.factor-cf.ensures c.differences_of-d.ensures
    in
    rw is (sheet-DE-lt a.formula c.requires)

pub returns : goal.returns
returns c =
    let a = c.args in
    let is =
    sheet_is a.formula a.l a.c a.r a.t c.semi_axes_of-s.ensures c.shift_to-z.ensures c.factor-lf.ensures
    c.factor-cf.ensures c.differences_of-d.ensures
    in
    comparison_is a.formula a.l a.c a.r a.t c.chroma_of.ensures c.shift_to-z.ensures (search rules) (search rules) is
    c.difference-scaled.ensures
