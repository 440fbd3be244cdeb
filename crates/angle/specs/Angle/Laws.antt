-- What the hue angle means: the degrees reached are exactly those from 0 to it; it grows as the colour turns; a quarter
-- turn adds 90, modulo 360; on an axis it is 0, 90, 180 or 270. And what code goes by: the quadrant, and the degrees
-- reached in it. All from the table's rule, and from the sine of 0 degrees, which is 0. Assumes nothing.
use Rattle.std.specs.Prelude.{◌≡◌, refl, Bool, true, false, not, cond, ◌↔◌, ◌⊎◌, ltb, eqb, ℤ, pos, negsuc, neg_ℤ}
use Rattle.std.proofs.Common.{sym, ap, ◌∙◌, ⊎_elim, le_refl, le_trans, le_of_lt, mul-le-mul_left, mul-le-mul_right, mul-pos, zero-lt-suc, arith}
use Rattle.std.proofs.lemmas.Bool.{false≢true}
use Prim.Native.Nat.{ℕ, zero, suc, ◌+◌, ◌*◌, ◌/◌, ◌%◌, ◌≤◌, ◌<◌}
use Rattle.std.proofs.Math.Nat.{le_of_mul-le-mul_left}
use borrow.Author.Tests.{lt-ltb, le-ltb, le-leb, leb-true, ltb-true, ltb-false, eqb-true, eqb-false, eq-eqb, ne_eqb}
use Rattle.rounding.specs.Signed.{∣◌∣, square, minus}
use Rattle.sheet.specs.Sheet.{cross}
use Rattle.angle.specs.Table.{sines, cosine, sine}
use Rattle.angle.specs.Table.Rule.{sine-le, cosine_ge, table-rule}
use Rattle.angle.specs.Angle.{quadrant, reached, greatest, hue_angle, reached_ahead, degrees_ahead}
use Rattle.angle.specs.Angle.Greatest.{is_greatest, greatest_is}
use Rattle.angle.specs.Angle.Quadrants.{Stands, Standing, standing, cross-stands, cross_of_two}
use Rattle.angle.specs.Angle.Quadrants.{along_a, along_b, some_stands, quadrant-stands, one_more_turn, four-turns}

-- ---- in the first quadrant

module _ (x y : ℕ) where
  pub degrees-lt : degrees_ahead x y < 90
  unfolding degrees_ahead
  degrees-lt = omega (arith, (is_greatest (reached_ahead x y) 90).low)

  -- what has reached degree k has passed every one before it
  reached_before : (j k : ℕ) → j ≤ k → k ≤ 90 → reached_ahead x y k ≡ true → reached_ahead x y j ≡ true
  reached_before j k h g e =
      le-leb _ _ (le_trans (mul-le-mul_right x (sine-le j k h g))
      (le_trans (leb-true (sine k * x) (cosine k * y) e) (mul-le-mul_right y (cosine_ge j k h g))))

  start-reached : reached_ahead x y 0 ≡ true
  unfolding sines
  start-reached = le-leb (0 * x) (cosine 0 * y) (omega arith)

  -- exactly the degrees up to the greatest are reached
  pub reached-upto : (k : ℕ) → k < 90 → (reached_ahead x y k ≡ true) ↔ (k ≤ degrees_ahead x y)
  unfolding degrees_ahead
  reached-upto k h =
      let found = is_greatest (reached_ahead x y) 90 in (
        found.most k h,
        λ upto. reached_before k _ upto (omega (arith, found.low)) (found.passes 0 (omega arith) start-reached),
      )

  pub not_reached : (k : ℕ) → k < 90 → reached_ahead x y k ≡ false → degrees_ahead x y < k
  not_reached k h e = go (ltb (degrees_ahead x y) k) refl
    where
      go : (t : Bool) → ltb (degrees_ahead x y) k ≡ t → degrees_ahead x y < k
      go true f = ltb-true (degrees_ahead x y) k f
      go false f = absurd (false≢true (sym e ∙ (reached-upto k h).1 (ltb-false (degrees_ahead x y) k f)))

-- ---- in its own quadrant

module _ {q x y : ℕ} {a b : ℤ} (low : q < 4) (s : Stands q x y a b) where
  reached_earlier : (d : ℕ) → d / 90 < q → reached a b d ≡ true
  unfolding reached
  reached_earlier d h = rw (quadrant-stands q low s, lt-ltb (d / 90) q h)

  reached_own : (d : ℕ) → d / 90 ≡ q → reached a b d ≡ reached_ahead x y (d % 90)
  unfolding reached
  reached_own d h =
      rw (quadrant-stands q low s, h, le-ltb q q (le_refl q), eq-eqb q q refl) (cross-stands s (d % 90))

  reached-later : (d : ℕ) → q < d / 90 → reached a b d ≡ false
  unfolding reached
  reached-later d h =
      rw (quadrant-stands q low s, le-ltb (d / 90) q (le_of_lt h), ne_eqb (d / 90) q (λ e. omega arith))

  -- a degree of the colour's quadrant
  reached-within : (k : ℕ) → k < 90 → reached a b (90 * q + k) ≡ reached_ahead x y k
  reached-within k h =
      reached_own (90 * q + k) (omega arith) ∙ ap (reached_ahead x y) (omega arith)

  not_beyond : (d : ℕ) → reached a b d ≡ true → d ≤ 90 * q + degrees_ahead x y
  not_beyond d e = go (ltb (d / 90) q) (eqb (d / 90) q) refl refl
    where
      go : (less same : Bool) → ltb (d / 90) q ≡ less → eqb (d / 90) q ≡ same → d ≤ 90 * q + degrees_ahead x y
      go true same f g = omega (arith, ltb-true (d / 90) q f)
      go false true f g =
          let own = eqb-true (d / 90) q g in
          omega (arith, (reached-upto x y (d % 90) (omega arith)).0 (sym (reached_own d own) ∙ e))
      go false false f g =
          let later : q < d / 90 = omega (arith, ltb-false (d / 90) q f, eqb-false (d / 90) q g) in
          absurd (false≢true (sym (reached-later d later) ∙ e))

  pub angle_stands : hue_angle a b ≡ 90 * q + degrees_ahead x y
  unfolding hue_angle
  angle_stands =
      let k : ℕ = degrees_ahead x y in
      let passes = reached-within k (degrees-lt x y) ∙ (reached-upto x y k (degrees-lt x y)).1 (le_refl k) in
      rw (ne_eqb (square a + square b) 0 (λ e. omega (arith, some_stands s)))
      (greatest_is (reached a b) 360 (90 * q + k) (omega (arith, degrees-lt x y)) passes (λ d h e. not_beyond d e))

  upto : (d : ℕ) → d ≤ 90 * q + degrees_ahead x y → reached a b d ≡ true
  upto d h = go (ltb (d / 90) q) refl
    where
      go : (less : Bool) → ltb (d / 90) q ≡ less → reached a b d ≡ true
      go true f = reached_earlier d (ltb-true (d / 90) q f)
      go false f =
          let own : d / 90 ≡ q = omega (arith, ltb-false (d / 90) q f, degrees-lt x y) in
          reached_own d own ∙ (reached-upto x y (d % 90) (omega arith)).1 (omega arith)

-- ---- what the angle means

-- (a, b) is not (0, 0)
abbrev pub HasHue : (a b : ℤ) → Type 0
HasHue a b = a ≡ pos 0 → b ≡ pos 0 → ⊥

-- AT a = b = 0 IT IS 0
pub neutral_angle : hue_angle (pos 0) (pos 0) ≡ 0
unfolding hue_angle
neutral_angle = refl

module _ (a b : ℤ) (some : HasHue a b) where
  -- THE DEGREES REACHED ARE EXACTLY THOSE FROM 0 TO THE HUE ANGLE
  pub degrees-reached : (d : ℕ) → (reached a b d ≡ true) ↔ (d ≤ hue_angle a b)
  degrees-reached d =
      let s = standing a b some in
      rw (angle_stands s.low s.stands) (not_beyond s.low s.stands d, upto s.low s.stands d)

-- ---- on an axis

-- past the start the sine is above 0
axis-degrees : (x : ℕ) → 0 < x → degrees_ahead x 0 ≡ 0
axis-degrees x some =
    let k : ℕ = degrees_ahead x 0 in
    go k ((reached-upto x 0 k (degrees-lt x 0)).1 (le_refl k)) (degrees-lt x 0)
  where
    go : (k : ℕ) → reached_ahead x 0 k ≡ true → k < 90 → k ≡ 0
    go zero e h = refl
    go (suc k) e h =
        let above : 0 < sine (suc k) = omega (arith, table-rule.sine_rises k (omega arith)) in
        absurd (omega (arith, leb-true (sine (suc k) * x) (cosine (suc k) * 0) e, mul-pos above some))

axis_angle : (q : ℕ) {x : ℕ} {a b : ℤ} → q < 4 → Stands q x 0 a b → hue_angle a b ≡ 90 * q
axis_angle q {x} h s = angle_stands h s ∙ rw (axis-degrees x s.some) (omega arith)

-- A COLOUR ON AN AXIS HAS 0, 90, 180 OR 270, however far out it lies
pub record AxisAngles (n : ℕ) : Type 0 where
  pub red : hue_angle (pos (suc n)) (pos 0) ≡ 0
  pub yellow : hue_angle (pos 0) (pos (suc n)) ≡ 90
  pub green : hue_angle (negsuc n) (pos 0) ≡ 180
  pub blue : hue_angle (pos 0) (negsuc n) ≡ 270

pub axis_angles : (n : ℕ) → AxisAngles n
axis_angles n = record {
  red = axis_angle 0 (omega arith) (record { some = zero-lt-suc n; is_a = refl; is_b = refl });
  yellow = axis_angle 1 (omega arith) (record { some = zero-lt-suc n; is_a = refl; is_b = refl });
  green = axis_angle 2 (omega arith) (record { some = zero-lt-suc n; is_a = refl; is_b = refl });
  blue = axis_angle 3 (omega arith) (record { some = zero-lt-suc n; is_a = refl; is_b = refl });
}

-- ---- a quarter turn

module _ {x y : ℕ} {a b : ℤ} where
  within_the_circle :
      {q : ℕ} → q < 3 → Stands q x y a b → hue_angle (neg_ℤ b) a ≡ (hue_angle a b + 90) % 360
  within_the_circle h s =
      rw (angle_stands (omega arith) s, angle_stands (omega arith) (one_more_turn s)) (omega (arith, degrees-lt x y))

  past_the_start : Stands 3 x y a b → hue_angle (neg_ℤ b) a ≡ (hue_angle a b + 90) % 360
  past_the_start s =
      rw (angle_stands (omega arith) s, angle_stands (omega arith) (four-turns (one_more_turn s)))
      (omega (arith, degrees-lt x y))

  turn_adds : (q : ℕ) → q < 4 → Stands q x y a b → hue_angle (neg_ℤ b) a ≡ (hue_angle a b + 90) % 360
  turn_adds zero h s = within_the_circle (omega arith) s
  turn_adds (suc zero) h s = within_the_circle (omega arith) s
  turn_adds (suc (suc zero)) h s = within_the_circle (omega arith) s
  turn_adds (suc (suc (suc zero))) h s = past_the_start s
  turn_adds (suc (suc (suc (suc q)))) h s = absurd (omega arith)

-- A QUARTER TURN OF THE COLOUR ADDS 90, MODULO 360
pub quarter_turn_adds : (a b : ℤ) → HasHue a b → hue_angle (neg_ℤ b) a ≡ (hue_angle a b + 90) % 360
quarter_turn_adds a b some = let s = standing a b some in turn_adds s.quarter s.low s.stands

-- ---- two colours

-- in one quadrant: (u, v) lies on (x, y)'s ray, or beyond it
degrees_grow : (x y u v : ℕ) → 0 < x → y * u ≤ x * v → degrees_ahead x y ≤ degrees_ahead u v
degrees_grow x y u v some h =
    let k : ℕ = degrees_ahead x y in
    let passed = leb-true (sine k * x) (cosine k * y) ((reached-upto x y k (degrees-lt x y)).1 (le_refl k)) in
    let first = mul-le-mul_right u passed in
    let then = mul-le-mul_left (cosine k) h in
    let both : x * (sine k * u) ≤ x * (cosine k * v) = omega arith in
    (reached-upto u v k (degrees-lt x y)).0 (le-leb _ _ (le_of_mul-le-mul_left both some))

same_quadrant :
    {q r x y u v : ℕ} {a b c d : ℤ} → q ≡ r → Stands q x y a b → Stands r u v c d → minus (cross a b c d) ≡ false →
    degrees_ahead x y ≤ degrees_ahead u v
same_quadrant {x = x} {y = y} {u = u} {v = v} e s t h =
    degrees_grow x y u v s.some
    (leb-true (y * u) (x * v) (sym (cross_of_two (rw e at s) t) ∙ ap not h))

-- (c, d) has turned as far as (a, b) or farther: it stands in a later quadrant; or in the same, and the cross from
-- (a, b) to it is not negative
abbrev pub TurnedOn : (a b c d : ℤ) → Type 0
TurnedOn a b c d =
    (quadrant a b < quadrant c d) ⊎ ((quadrant a b ≡ quadrant c d) × (minus (cross a b c d) ≡ false))

-- THE HUE ANGLE GROWS AS THE COLOUR TURNS
pub angle_grows :
    (a b c d : ℤ) → HasHue a b → HasHue c d → TurnedOn a b c d → hue_angle a b ≤ hue_angle c d
angle_grows a b c d some more t =
    let s = standing a b some in
    let r = standing c d more in
    let is-s = quadrant-stands s.quarter s.low s.stands in
    let is-r = quadrant-stands r.quarter r.low r.stands in
    rw (angle_stands s.low s.stands, angle_stands r.low r.stands)
    (⊎_elim
    (λ later. omega (arith, degrees-lt s.x s.y))
    (λ own. omega (arith, same_quadrant (sym is-s ∙ own.0 ∙ is-r) s.stands r.stands own.1))
    t)

-- ---- what code goes by

pub angle_lt : (a b : ℤ) → hue_angle a b < 360
unfolding hue_angle
angle_lt a b = go (eqb (square a + square b) 0)
  where
    go : (neutral : Bool) → cond neutral 0 (greatest (reached a b) 360) < 360
    go true = omega arith
    go false = omega (arith, (is_greatest (reached a b) 360).low)

module _ (a b : ℤ) (some : HasHue a b) where
  abbrev at : Standing a b
  at = standing a b some

  is : quadrant a b ≡ at.quarter
  is = quadrant-stands at.quarter at.low at.stands

  pub angle_along_a : quadrant a b % 2 ≡ 0 → hue_angle a b ≡ 90 * quadrant a b + degrees_ahead ∣ a ∣ ∣ b ∣
  angle_along_a e = rw is (angle_stands at.low (along_a at.quarter at.low (rw is at e) at.stands))

  pub angle_along_b : (quadrant a b % 2 ≡ 0 → ⊥) → hue_angle a b ≡ 90 * quadrant a b + degrees_ahead ∣ b ∣ ∣ a ∣
  angle_along_b e = rw is (angle_stands at.low (along_b at.quarter at.low (rw is at e) at.stands))
