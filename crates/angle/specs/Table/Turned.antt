-- Why these are the cosines and the sines: one step of a degree, to 24 decimals, has the length 1; eighty-nine of them
-- come to the step with its parts exchanged, so that one more is a quarter turn; and entry k is the nearest eight
-- decimals of k of them, with room to spare for the step's own rounding. By computing; no proof cites this.
-- Assumes nothing.
use Rattle.std.specs.Prelude.{◌≡◌, refl, Bool, true, ◌&&◌, ℕ, zero, suc, ◌+◌, ◌-◌, ◌*◌, ◌/◌, ◌^◌, leb}
use Rattle.angle.specs.Table.{cosines, sines, cosine, sine}
use Rattle.angle.specs.Table.Rule.{every}

-- 10 ^ 24 stands for 1
pub record Fine : Type 0 where
  pub x : ℕ
  pub y : ℕ

-- the cosine and the sine of one degree
abbrev pub degree : Fine
degree = record { x = 999847695156391239157012; y = 17452406437283512819419 }

-- one degree on: the product of two complex numbers, each part rounded down. Below 90 degrees the subtraction cuts
-- nothing
abbrev pub on : Fine → Fine
on v = record {
  x = (v.x * degree.x - v.y * degree.y) / 10 ^ 24;
  y = (v.x * degree.y + v.y * degree.x) / 10 ^ 24;
}

-- k degrees from (1, 0)
unfoldable pub steps : (k : ℕ) → Fine
steps zero = record { x = 10 ^ 24; y = 0 }
steps (suc k) = on (steps k)

-- two numbers lie at most d apart
abbrev pub within : (d m n : ℕ) → Bool
within d m n = leb (m - n) d && leb (n - m) d

-- entry k lies within 0.499 of its last digit of k steps, which have 16 digits more
abbrev nearest : ℕ → Bool
nearest k =
    let v : Fine = steps k in
    within (499 * 10 ^ 13) (cosine k * 10 ^ 16) v.x && within (499 * 10 ^ 13) (sine k * 10 ^ 16) v.y

pub record TurnedTable : Type 0 where
  -- the step's length is 1 within 10 ^ -24
  pub length : within (10 ^ 24) (degree.x * degree.x + degree.y * degree.y) (10 ^ 48) ≡ true
  -- eighty-nine steps come to its parts exchanged, within 10 ^ -22
  pub quarter_x : within 100 (steps 89).x degree.y ≡ true
  pub quarter_y : within 100 (steps 89).y degree.x ≡ true
  pub entries : every nearest 91 ≡ true

pub turned-table : TurnedTable
unfolding cosines sines steps
turned-table = record { length = refl; quarter_x = refl; quarter_y = refl; entries = refl }
