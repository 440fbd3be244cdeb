-- `angle::hue_angle` meets its contract: at a = b = 0 it is 0; else the quadrant, and the degrees ahead in it, along a
-- in quadrants 0 and 2, along b in 1 and 3. Assumes nothing.
use Rattle.std.proofs.Common.{◌≡◌, sym, ap, ap₂, ◌∙◌, ℕ, ◌+◌, ◌*◌, ◌<◌, ℤ, arith}
use mir.Facts.{to_z-of_z}
use Rattle.rounding.specs.Signed.{∣◌∣}
use Rattle.rounding.proofs.Theorems.Signed.Laws.{zero_of_abs}
use Rattle.angle.specs.Angle.{quadrant, hue_angle, degrees_ahead}
use Rattle.angle.specs.Angle.Laws.{HasHue, degrees-lt, angle_along_a, angle_along_b, neutral_angle}
use Rattle.angle.specs.Angle.Quadrants.{quadrant-lt}
use Rattle.angle.proofs.hue_angle.Goals as goal

pub returns-then-x-y-eq0 : goal.returns-then-x-y-eq0
returns-then-x-y-eq0 c =
    let x_is = rw (to_z-of_z c.ranges.a) at c.magnitude-x.ensures in
    let y_is = rw (to_z-of_z c.ranges.b) at c.magnitude-y.ensures in
    let a-none : ∣ c.args.a ∣ ≡ 0 = omega (arith, x_is) in
    let b-none : ∣ c.args.b ∣ ≡ 0 = omega (arith, y_is) in
    sym (ap₂ hue_angle (zero_of_abs _ a-none) (zero_of_abs _ b-none) ∙ neutral_angle)

-- ---- a quadrant, and the degrees in it

q_lt : {q : ℕ} (a b : ℤ) → q ≡ quadrant a b → q < 4
q_lt a b e = rw e (quadrant-lt a b)

some : (a b : ℤ) {x y : ℕ} → x ≡ ∣ a ∣ → y ≡ ∣ b ∣ → ¬ (x + y ≡ 0) → HasHue a b
some a b x_is y_is other a_none b_none =
    let a_is : ∣ a ∣ ≡ 0 = ap (λ (z : ℤ). ∣ z ∣) a_none in
    let b_is : ∣ b ∣ ≡ 0 = ap (λ (z : ℤ). ∣ z ∣) b_none in
    other (omega arith)

-- q quarter turns and the degrees ahead
together :
    {q k r x y u v : ℕ} → q ≡ r → k ≡ degrees_ahead x y → x ≡ u → y ≡ v → 90 * q + k ≡ 90 * r + degrees_ahead u v
together e f g h = rw (e, f, g, h)

pub overflow_mul-result : goal.overflow_mul-result
overflow_mul-result c = record { fits = omega (arith, q_lt _ _ c.quadrant_of-q.ensures) }

pub overflow_add-result : goal.overflow_add-result
overflow_add-result c =
    record { fits = rw c.degrees.ensures (omega (arith, q_lt _ _ c.quadrant_of-q.ensures, degrees-lt c.magnitude-x.result c.magnitude-y.result)) }

pub returns-then-q-eq0 : goal.returns-then-q-eq0
returns-then-q-eq0 c =
    let x_is = rw (to_z-of_z c.ranges.a) at c.magnitude-x.ensures in
    let y_is = rw (to_z-of_z c.ranges.b) at c.magnitude-y.ensures in
    let q_is = rw (to_z-of_z c.ranges.a, to_z-of_z c.ranges.b) at c.quadrant_of-q.ensures in
    together q_is c.degrees.ensures x_is y_is
    ∙ sym (angle_along_a _ _ (some _ _ x_is y_is c.if-x-y-eq0.false) (rw q_is at c.if-q-eq0.true))

pub overflow_mul-result-2 : goal.overflow_mul-result-2
overflow_mul-result-2 c = record { fits = omega (arith, q_lt _ _ c.quadrant_of-q.ensures) }

pub overflow_add-result-2 : goal.overflow_add-result-2
overflow_add-result-2 c =
    record { fits = rw c.degrees-2.ensures (omega (arith, q_lt _ _ c.quadrant_of-q.ensures, degrees-lt c.magnitude-y.result c.magnitude-x.result)) }

pub returns : goal.returns
returns c =
    let x_is = rw (to_z-of_z c.ranges.a) at c.magnitude-x.ensures in
    let y_is = rw (to_z-of_z c.ranges.b) at c.magnitude-y.ensures in
    let q_is = rw (to_z-of_z c.ranges.a, to_z-of_z c.ranges.b) at c.quadrant_of-q.ensures in
    together q_is c.degrees-2.ensures y_is x_is
    ∙ sym (angle_along_b _ _ (some _ _ x_is y_is c.if-x-y-eq0.false) (rw q_is at c.if-q-eq0.false))
