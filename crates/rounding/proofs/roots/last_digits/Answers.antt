-- `roots::last_digits` meets its contract: two shifts are one, whatever leaves the word (`mod_times`). Assumes nothing.
use Rattle.std.proofs.Common.{◌≡◌, ◌∙◌, ℕ, suc, ◌-◌, ◌*◌, ◌^◌, ◌<◌, pow-suc, arith}
use Rattle.rounding.proofs.Digits.{mod_times}
use Rattle.rounding.proofs.roots.last_digits.Goals as goal

one_shift : (x n : ℕ) → n < 64 → x * 2 * 2 ^ (63 - n) ≡ x * 2 ^ (64 - n)
one_shift x n less =
    let more : 64 - n ≡ suc (63 - n) = omega arith in
    rw (more, pow-suc 2 (63 - n)) (omega arith)

pub returns : goal.returns
returns c =
    mod_times (c.args.x * 2) (2 ^ (63 - c.args.places)) (2 ^ 64) ∙ rw (one_shift c.args.x c.args.places c.requires)
