-- The bound that the argument reaches. 0.002 is 2097.152 units of 2 ^ -20, and 2 ^ (n - 20) units of 2 ^ -n make one
-- of these. Whatever our DE is, DE at n places is within a ten-thousandth of it and 579.0579 units; so within 1628
-- units where it is at most 10. Assumes nothing.
use Rattle.std.specs.Prelude.{ℕ, ◌+◌, ◌-◌, ◌*◌, ◌^◌, ◌≤◌, ◌<◌}
use Rattle.std.proofs.Common.{arith, pow_pos}
use Rattle.colour.specs.declared.conversion.GridColour.{GridColour}
use Rattle.sheet.specs.Settings.{Factor}
use Rattle.sheet.specs.Sheet.{sheet}
use Rattle.sheet.specs.declared.formula.Formula.{Formula}
use Rattle.finer.specs.Moves.{Moves, DE_moves, moves_le}
use Rattle.finer.specs.Finer.{apart}

pub record Reached (n DE20 DEn : ℕ) : Type 0 where
  pub any : 10000 * apart DEn (2 ^ (n - 20) * DE20) ≤ 2 ^ (n - 20) * (DE20 + 5790579)
  pub to_10 : DE20 ≤ 10 * 2 ^ 20 → apart DEn (2 ^ (n - 20) * DE20) < 1628 * 2 ^ (n - 20)

reached_of_moves : (n x y : ℕ) → Moves (2 ^ (n - 20)) x y → Reached n x y
reached_of_moves n x y moves =
    let some = pow_pos (n - 20) in
    record { any = omega arith; to_10 = λ small. omega (arith, moves_le (2 ^ (n - 20)) x y some moves small) }

pub bound_reached :
    (f : Formula) {l c : ℕ} → Factor l → Factor c → (R T : GridColour) (n : ℕ) → 20 ≤ n →
    Reached n (sheet 20 f l c R T).DE (sheet n f l c R T).DE
bound_reached f hl hc R T n from20 = reached_of_moves n _ _ (DE_moves n from20 f hl hc R T)
