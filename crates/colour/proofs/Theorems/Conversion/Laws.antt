-- That f above the cut is the root of the exact q (docs/SCOPE.md 5); and what callers use of the conversion at 20
-- places: how large f and L* are, and what the test of a colour says. Assumes nothing.
use Rattle.std.specs.Prelude.{Bool, ◌&&◌, ◌≡◌, ℕ, ◌+◌, ◌-◌, ◌*◌, ◌/◌, ◌^◌, ◌≤◌, ◌<◌}
use Rattle.std.proofs.Math.Bool.{true, false, cond}
use Rattle.std.proofs.Common.{true≢false, sym, le-div_iff_mul-le, div-lt_iff_lt-mul, arith}
use Rattle.std.proofs.Math.Path.{refl}
use borrow.Author.Tests.{leb-true, le-leb, ltb-true, ltb-false}
use Rattle.rounding.specs.Fraction.{le-div, div-lt, div-le}
use Rattle.rounding.specs.Root.{root_law}
use Rattle.rounding.proofs.Theorems.Root.Laws.{le-root, root-lt}
use Rattle.reading.specs.Reading.{range_of, is_within, Within}
use Rattle.reading.proofs.Theorems.Reading.Laws.{abs_le_of_within, not_minus_of_within, is_lightness_lem, is_opponent_lem}
use Rattle.reading.proofs.Theorems.Reading.Laws.{opponent-le}
use Rattle.reading.specs.declared.quantity.Quantity.TheVariants.{Lightness, Opponent}
use Rattle.colour.specs.declared.conversion.GridColour.{GridColour}
use Rattle.colour.specs.Conversion.Ranges.{Against, OnGrid}
use Rattle.colour.specs.Conversion.{bs6923, above_cut, f_high, f_low, f, lightness, on_grid}

-- f is the greatest whole number whose cube is at most q times 2 ^ 3n, q being the exact fraction x / w: both sides
-- times w
pub record GreatestCube (n x w f : ℕ) : Type 0 where
  pub at_most_lem : f ^ 3 * w ≤ x * 2 ^ (3 * n)
  pub next-above : x * 2 ^ (3 * n) < (f + 1) ^ 3 * w

-- THE ROOT IS THAT OF THE EXACT q: the definition rounds q times 2 ^ 3n down before it takes the root, which changes
-- nothing
pub cube_at_most_q : (n x w : ℕ) → 0 < w → GreatestCube n x w (f_high n x w)
unfolding f_high
cube_at_most_q n x w some =
    let root = root_law 3 (x * 2 ^ (3 * n) / w) (omega arith) in
    record {
      at_most_lem = (le-div_iff_mul-le some).0 root.low;
      next-above = (div-lt_iff_lt-mul {y = (f_high n x w + 1) ^ 3}
          some).0 root.high;
    }

module _ (x w : ℕ) (h : Against x w) where
  -- f is below 136/116, so L* is below 120
  f_high-lt : f_high 20 x w < 1229364
  unfolding f_high
  f_high-lt = root-lt 3 _ 1229364 (omega arith) (div-lt (x * 2 ^ 60) w (1229364 ^ 3) (omega arith) (omega arith))

  f_low-lt : above_cut bs6923 x w ≡ false → f_low 20 bs6923 x w < 1229364
  unfolding f_low above_cut
  f_low-lt low = div-lt _ _ _ (omega arith) (omega (arith, ltb-false (8856 * w) (x * 1000000) low))

  pub f_lt : f 20 bs6923 x w < 1229364
  unfolding f
  f_lt = either (above_cut bs6923 x w) refl
    where
      either : (b : Bool) → above_cut bs6923 x w ≡ b → cond b (f_high 20 x w) (f_low 20 bs6923 x w) < 1229364
      either true up = f_high-lt
      either false low = f_low-lt low

  -- 116 f is at least 16 above the cut
  pub le_f : above_cut bs6923 x w ≡ true → 144632 ≤ f 20 bs6923 x w
  unfolding f f_high above_cut
  le_f up =
      rw up (le-root 3 _ 144632 (omega arith)
      (le-div _ _ _ (omega arith) (omega (arith, ltb-true (8856 * w) (x * 1000000) up))))

  -- L* on either side of the cut
  pub lightness-above : above_cut bs6923 x w ≡ true → lightness 20 bs6923 x w ≡ 116 * f 20 bs6923 x w - 16 * 2 ^ 20
  unfolding lightness
  lightness-above up = rw up

  pub lightness_below : above_cut bs6923 x w ≡ false → lightness 20 bs6923 x w ≡ 9033 * x * 2 ^ 20 / (10 * w)
  unfolding lightness
  lightness_below low = rw low

  pub lightness-le : lightness 20 bs6923 x w ≤ 120 * 2 ^ 20
  unfolding above_cut
  lightness-le = either (above_cut bs6923 x w) refl
    where
      either : (b : Bool) → above_cut bs6923 x w ≡ b → lightness 20 bs6923 x w ≤ 120 * 2 ^ 20
      either true up = rw (lightness-above up) (omega (arith, f_lt))
      either false low =
          rw (lightness_below low) (div-le _ _ _ (omega arith) (omega (arith, ltb-false (8856 * w) (x * 1000000) low)))

-- ---- the test of a colour, and what it says

pub both_true : (a b : Bool) → a && b ≡ true → (a ≡ true) × (b ≡ true)
both_true true b e = (refl, e)
both_true false b e = (e, absurd (true≢false (sym e)))

module _ (c : GridColour) where
  -- each way out of the test
  pub off_grid_L : is_within (range_of Lightness) c.L.0 ≡ false → false ≡ on_grid c
  unfolding on_grid
  off_grid_L l = rw l

  pub off_grid_a :
      is_within (range_of Lightness) c.L.0 ≡ true → is_within (range_of Opponent) c.a.0 ≡ false → false ≡ on_grid c
  unfolding on_grid
  off_grid_a l a = rw (l, a)

  pub on_grid_b :
      {r : Bool} → is_within (range_of Lightness) c.L.0 ≡ true → is_within (range_of Opponent) c.a.0 ≡ true →
      r ≡ is_within (range_of Opponent) c.b.0 → r ≡ on_grid c
  unfolding on_grid
  on_grid_b l a b = rw (l, a) b

  pub on_grid_lem : on_grid c ≡ true → OnGrid c
  unfolding on_grid
  on_grid_lem e =
      let (la, b) = both_true _ (is_within (range_of Opponent) c.b.0) e in
      let (l, a) = both_true (is_within (range_of Lightness) c.L.0) (is_within (range_of Opponent) c.a.0) la in
      let light : Within (range_of Lightness) c.L.0 = record { size = leb-true _ _ l } in
      record {
        not_below = not_minus_of_within (range_of Lightness) _ refl light;
        L = abs_le_of_within Lightness _ light;
        a = opponent-le c.a.0 a;
        b = opponent-le c.b.0 b;
      }

  pub grid_on : OnGrid c → on_grid c ≡ true
  unfolding on_grid
  grid_on h =
      rw (
        is_lightness_lem _ h.not_below,
        is_opponent_lem c.a.0,
        is_opponent_lem c.b.0,
        le-leb _ _ h.L,
        le-leb _ _ h.a,
        le-leb _ _ h.b,
      )
