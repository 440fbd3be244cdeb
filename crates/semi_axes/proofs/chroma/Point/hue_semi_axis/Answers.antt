-- `Point::hue_semi_axis` meets its contract: lines 5 to 7, or SC for a neutral colour, whose chroma alone is 0.
-- Assumes nothing.
use Rattle.std.proofs.Common.{ℕ, ◌<◌, sym, ap₂, ◌∙◌, arith}
use Rattle.sheet.specs.Sheet.{hue_p, hue_g, semi_axis_h}
use Rattle.sheet.proofs.Theorems.Sheet.Laws.{neutral_of_chroma, chromatic_of_chroma, hue_semi_axis-neutral}
use Rattle.sheet.proofs.Theorems.Sheet.Laws.{hue_semi_axis-chromatic}
use Rattle.semi_axes.proofs.chroma.Point.hue_semi_axis.Goals as goal

pub returns-then-self-eq0 : goal.returns-then-self-eq0
returns-then-self-eq0 c =
    let p = c.args.self in
    sym (hue_semi_axis-neutral 20 p.a p.b p.C c.args.sc (neutral_of_chroma _ _ (sym p.is_chroma ∙ c.if-self-eq0.true)))

pub returns : goal.returns
returns c =
    let p = c.args.self in
    let some : 0 < p.C = omega arith in
    c.semi_axis_h.ensures
    ∙ ap₂ (λ (f t : ℕ). semi_axis_h 20 c.args.sc (hue_g 20 (hue_p 20 f t) f)) c.hue_f.ensures.is c.hue_t.ensures.is
    ∙ sym (hue_semi_axis-chromatic 20 p.a p.b p.C c.args.sc (chromatic_of_chroma _ _ (rw p.is_chroma at some)))
