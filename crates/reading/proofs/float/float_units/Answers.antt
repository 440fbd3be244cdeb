-- Each way out is the definition's: not finite, below the lower end, above the upper, and else inside both.
-- Assumes nothing.
use Rattle.std.specs.Prelude.{Ok}
use Rattle.std.proofs.Common.{◌≡◌, sym, ap, ◌∙◌, w64, to_z, of_z, rules}
use Rattle.reading.proofs.Ranges.{not_finite, finite_of_test, out_below, out_above, inside}
use Rattle.reading.proofs.float.float_units.Goals.{then-x-range_end-via-then-x-range_end, then-x-range_end-via-else-x-range_end+then-x-range_end-2}
use Rattle.reading.proofs.float.float_units.Goals as goal

pub returns-then-not-is_finite : goal.returns-then-not-is_finite
returns-then-not-is_finite c = not_finite _ _ (sym c.is_finite.ensures ∙ c.if-not-is_finite.true)

pub returns-then-x-range_end : goal.returns-then-x-range_end
returns-then-x-range_end c =
    let f = finite_of_test _ (sym c.is_finite.ensures ∙ c.if-not-is_finite.false) in
    elim c.then-x-range_end.branch [
      | then-x-range_end-via-then-x-range_end w ↦ out_below c.args.q _ c.range_end.ensures c.args.x f w.if-x-range_end.true
      | then-x-range_end-via-else-x-range_end+then-x-range_end-2 w ↦
          out_above c.args.q _ w.range_end-else-x-range_end.ensures c.args.x f w.if-x-range_end-2.true
    ]

pub nearest_units-requires : goal.nearest_units-requires
nearest_units-requires c =
    let f = finite_of_test _ (sym c.is_finite.ensures ∙ c.if-not-is_finite.false) in
    (inside c.args.q _ _ c.range_end.ensures c.range_end-else-x-range_end.ensures c.args.x f c.if-x-range_end.false
    c.if-x-range_end-2.false).small

pub returns : goal.returns
returns c =
    let f = finite_of_test _ (sym c.is_finite.ensures ∙ c.if-not-is_finite.false) in
    let back : to_z w64 (of_z w64 c.nearest_units.result) ≡ c.nearest_units.result = search rules in
    ap Ok (back ∙ c.nearest_units.ensures)
    ∙ (inside c.args.q _ _ c.range_end.ensures c.range_end-else-x-range_end.ensures c.args.x f c.if-x-range_end.false
    c.if-x-range_end-2.false).units
