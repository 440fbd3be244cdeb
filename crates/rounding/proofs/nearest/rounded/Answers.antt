-- `nearest::rounded` meets its contract: half of den, rounded down, may be added first (`nearest-add`). Assumes
-- nothing.
use Rattle.std.proofs.Common.{◌≡◌, sym, ap, ◌∙◌, rules, to_z, of_z, w64}
use Rattle.rounding.specs.Signed.{signed}
use Rattle.rounding.proofs.Theorems.Nearest.Laws.{nearest-add}
use Rattle.rounding.proofs.nearest.rounded.Goals as goal

pub returns : goal.returns
returns c =
    let back : to_z w64 (of_z w64 c.with_sign.result) ≡ c.with_sign.result = search rules in
    back ∙ c.with_sign.ensures ∙ ap (signed c.args.below) (sym (nearest-add c.args.num c.args.den))
