-- A colour turned back into the first quadrant: where it stands, its quadrant, and that turning direction and colour
-- together leaves their cross. So what it has reached in its quadrant is a comparison of whole numbers.
-- Assumes nothing.
use Rattle.std.specs.Prelude.{◌≡◌, refl, Bool, true, false, not, cond, ◌&&◌, ℕ, zero, suc, ◌+◌, ◌*◌, ◌%◌, ◌<◌, leb, ℤ, pos, negsuc, neg_ℤ}
use Rattle.std.proofs.Common.{sym, ap, ap₂, ◌∙◌, zero-le, zero-lt-suc, add_comm, mul-pos, arith, lt-ltb, le-ltb, le-leb}
use Rattle.std.proofs.Math.Bool.{and-false}
use Rattle.std.proofs.lemmas.Bool.{lt-leb}
use Rattle.std.proofs.Math.IntN.{neg_ℤ-neg_ℤ}
use Rattle.rounding.specs.Signed.{∣◌∣, square, minus}
use Rattle.rounding.proofs.Theorems.Signed.Difference.{IsDiff, above, below, diff_same, diff_shift, diff_parts, diff_neg}
use Rattle.rounding.proofs.Theorems.Signed.Difference.{diff_sub, diff_mul}
use Rattle.rounding.proofs.Theorems.Signed.Laws.{abs_neg}
use Rattle.sheet.specs.Sheet.{cross}
use Rattle.names.specs.Names.{Direction}
use Rattle.names.proofs.Theorems.Names.Laws.{plus, not_minus}
use Rattle.angle.specs.Table.{cosine, sine}
use Rattle.angle.specs.Angle.{quarter_turn, turned, vector, quadrant, reached_ahead}

-- a colour of the first quadrant: x along the axis that it starts from, y away from it
abbrev pub ahead : (x y : ℕ) → Direction
ahead x y = record { a = pos x; b = pos y }

-- (a, b) is such a colour, not on the quadrant's other axis, after q quarter turns
pub record Stands (q x y : ℕ) (a b : ℤ) : Type 0 where
  pub some : 0 < x
  pub is_a : a ≡ (turned q (ahead x y)).a
  pub is_b : b ≡ (turned q (ahead x y)).b

-- ---- turning

crossed : (v w : Direction) → ℤ
crossed v w = cross v.a v.b w.a w.b

cross-quarter : (v w : Direction) → crossed (quarter_turn v) (quarter_turn w) ≡ crossed v w
unfolding crossed cross
cross-quarter v w =
    let p = diff_parts v.a in
    let q = diff_parts v.b in
    let r = diff_parts w.a in
    let s = diff_parts w.b in
    diff_same _ _ _ _ (omega arith) (diff_sub (diff_mul (diff_neg q) r) (diff_mul (diff_neg s) p))
    (diff_sub (diff_mul p s) (diff_mul r q))

cross-turned : (q : ℕ) (v w : Direction) → crossed (turned q v) (turned q w) ≡ crossed v w
cross-turned zero v w = refl
cross-turned (suc q) v w = cross-quarter (turned q v) (turned q w) ∙ cross-turned q v w

square-turned :
    (q : ℕ) (v : Direction) → square (turned q v).a + square (turned q v).b ≡ square v.a + square v.b
square-turned zero v = refl
square-turned (suc q) v =
    ap₂ ◌+◌ (ap₂ ◌*◌ (abs_neg (turned q v).b) (abs_neg (turned q v).b)) refl
    ∙ add_comm (square (turned q v).b) (square (turned q v).a)
    ∙ square-turned q v

-- ---- what is reached, in whole numbers

-- a difference is not negative where what is taken away is at most what it is taken from
diff_not_minus : {m n : ℕ} {z : ℤ} → IsDiff m n z → not (minus z) ≡ leb n m
diff_not_minus {m} {n} (above k e) = ap not (le-ltb k 0 zero-le) ∙ sym (le-leb n m (omega arith))
diff_not_minus {m} {n} (below k e) = sym (lt-leb n m (omega arith))

cross-ahead : (c s x y : ℕ) → not (minus (crossed (ahead c s) (ahead x y))) ≡ leb (s * x) (c * y)
unfolding crossed cross
cross-ahead c s x y =
    let p = diff_mul (diff_parts (pos c)) (diff_parts (pos y)) in
    let r = diff_mul (diff_parts (pos x)) (diff_parts (pos s)) in
    diff_not_minus (diff_shift _ _ (c * y) (s * x) (omega arith) (diff_sub p r))

cross_both :
    (q c s x y : ℕ) → not (minus (crossed (turned q (ahead c s)) (turned q (ahead x y)))) ≡ leb (s * x) (c * y)
cross_both q c s x y = rw (cross-turned q (ahead c s) (ahead x y)) (cross-ahead c s x y)

-- of two colours that stand in one quadrant
pub cross_of_two :
    {q x y u v : ℕ} {a b c d : ℤ} → Stands q x y a b → Stands q u v c d →
    not (minus (cross a b c d)) ≡ leb (y * u) (x * v)
unfolding crossed
cross_of_two {q} {x} {y} {u} {v} s t = rw (s.is_a, s.is_b, t.is_a, t.is_b) (cross_both q x y u v)

module _ {q x y : ℕ} {a b : ℤ} (s : Stands q x y a b) where
  pub cross-stands :
      (k : ℕ) → not (minus (cross (turned q (vector k)).a (turned q (vector k)).b a b)) ≡ reached_ahead x y k
  unfolding crossed
  cross-stands k = rw (s.is_a, s.is_b) (cross_both q (cosine k) (sine k) x y)

  pub some_stands : 0 < square a + square b
  some_stands = rw (s.is_a, s.is_b) (rw (square-turned q (ahead x y)) (omega (arith, mul-pos s.some s.some)))

-- ---- the quadrant

plus-pos : (n : ℕ) → 0 < n → plus (pos n) ≡ true
plus-pos n h = lt-ltb 0 n h

minus_pos : (n : ℕ) → minus (pos n) ≡ false
minus_pos n = le-ltb n 0 zero-le

minus-neg-pos : (n : ℕ) → 0 < n → minus (neg_ℤ (pos n)) ≡ true
minus-neg-pos zero h = absurd (omega arith)
minus-neg-pos (suc n) h = refl

plus-neg-pos : (n : ℕ) → plus (neg_ℤ (pos n)) ≡ false
plus-neg-pos zero = refl
plus-neg-pos (suc n) = refl

module _ {x y : ℕ} {a b : ℤ} where
  first_quadrant : Stands 0 x y a b → quadrant a b ≡ 0
  unfolding quadrant
  first_quadrant s = rw (s.is_a, s.is_b) (rw (plus-pos x s.some, minus_pos y))

  second-quadrant : Stands 1 x y a b → quadrant a b ≡ 1
  unfolding quadrant
  second-quadrant s = rw (s.is_a, s.is_b) (rw (plus-neg-pos y, plus-pos x s.some))

  third-quadrant : Stands 2 x y a b → quadrant a b ≡ 2
  unfolding quadrant
  third-quadrant s =
      rw (s.is_a, s.is_b) (rw (plus-neg-pos x, plus-neg-pos y, minus-neg-pos x s.some))

  fourth-quadrant : Stands 3 x y a b → quadrant a b ≡ 3
  unfolding quadrant
  fourth-quadrant s =
      rw (s.is_a, s.is_b)
      (rw (neg_ℤ-neg_ℤ (pos y), minus-neg-pos x s.some, plus-neg-pos x, minus_pos y) (rw (and-false (plus (pos y)))))

pub quadrant-stands : (q : ℕ) {x y : ℕ} {a b : ℤ} → q < 4 → Stands q x y a b → quadrant a b ≡ q
quadrant-stands zero h s = first_quadrant s
quadrant-stands (suc zero) h s = second-quadrant s
quadrant-stands (suc (suc zero)) h s = third-quadrant s
quadrant-stands (suc (suc (suc zero))) h s = fourth-quadrant s
quadrant-stands (suc (suc (suc (suc q)))) h s = absurd (omega arith)

-- by the signs of a and b, as code goes through them
module _ (a b : ℤ) where
  pub quadrant_0 : plus a ≡ true → minus b ≡ false → 0 ≡ quadrant a b
  unfolding quadrant
  quadrant_0 h g = rw (h, g)

  pub quadrant_3 : plus a ≡ true → minus b ≡ true → 3 ≡ quadrant a b
  unfolding quadrant
  quadrant_3 h g = rw (h, g, not_minus a h) (rw (and-false (plus b)))

  module _ (back : plus a ≡ false) where
    pub quadrant_1 : plus b ≡ true → 1 ≡ quadrant a b
    unfolding quadrant
    quadrant_1 g = rw (back, g)

    pub quadrant_2 : plus b ≡ false → minus a ≡ true → 2 ≡ quadrant a b
    unfolding quadrant
    quadrant_2 g h = rw (back, g, h)

    pub quadrant_3_or_none : plus b ≡ false → minus a ≡ false → 3 ≡ quadrant a b
    unfolding quadrant
    quadrant_3_or_none g h = rw (back, g, h)

pub quadrant-lt : (a b : ℤ) → quadrant a b < 4
unfolding quadrant
quadrant-lt a b =
    go (plus a && not (minus b)) (plus b && not (plus a)) (minus a && not (plus b))
  where
    go : (p q r : Bool) → cond p 0 (cond q 1 (cond r 2 3)) < 4
    go true q r = omega arith
    go false true r = omega arith
    go false false true = omega arith
    go false false false = omega arith

-- ---- every colour but the neutral one stands in a quadrant

pub record Standing (a b : ℤ) : Type 0 where
  pub quarter : ℕ
  pub x : ℕ
  pub y : ℕ
  pub low : quarter < 4
  pub stands : Stands quarter x y a b

stands_in :
    {a b : ℤ} (q x y : ℕ) → q < 4 → a ≡ (turned q (ahead (suc x) y)).a → b ≡ (turned q (ahead (suc x) y)).b →
    Standing a b
stands_in q x y h e f = record {
  quarter = q;
  x = suc x;
  y = y;
  low = h;
  stands = record { some = zero-lt-suc x; is_a = e; is_b = f };
}

pub standing : (a b : ℤ) → (a ≡ pos 0 → b ≡ pos 0 → ⊥) → Standing a b
standing (pos zero) (pos zero) some = absurd (some refl refl)
standing (pos zero) (pos (suc n)) some = stands_in 1 n 0 (omega arith) refl refl
standing (pos (suc m)) (pos n) some = stands_in 0 m n (omega arith) refl refl
standing (pos m) (negsuc n) some = stands_in 3 n m (omega arith) (sym (neg_ℤ-neg_ℤ (pos m))) refl
standing (negsuc m) (pos zero) some = stands_in 2 m 0 (omega arith) refl refl
standing (negsuc m) (pos (suc n)) some = stands_in 1 n (suc m) (omega arith) refl refl
standing (negsuc m) (negsuc n) some = stands_in 2 m (suc n) (omega arith) refl refl

-- ---- along a or along b

sized : {q x y m n : ℕ} {a b : ℤ} → m ≡ x → n ≡ y → Stands q x y a b → Stands q m n a b
sized e f s = rw (e, f) s

abs_of : {a b : ℤ} → a ≡ b → ∣ a ∣ ≡ ∣ b ∣
abs_of e = ap (λ (z : ℤ). ∣ z ∣) e

abs-neg-pos : {z : ℤ} (n : ℕ) → z ≡ neg_ℤ (pos n) → ∣ z ∣ ≡ n
abs-neg-pos n e = abs_of e ∙ abs_neg (pos n)

-- in quadrants 0 and 2 it stands along a
pub along_a : (q : ℕ) {x y : ℕ} {a b : ℤ} → q < 4 → q % 2 ≡ 0 → Stands q x y a b → Stands q ∣ a ∣ ∣ b ∣ a b
along_a zero h e s = sized (abs_of s.is_a) (abs_of s.is_b) s
along_a (suc zero) h e s = absurd (omega arith)
along_a (suc (suc zero)) {x} {y} h e s = sized (abs-neg-pos x s.is_a) (abs-neg-pos y s.is_b) s
along_a (suc (suc (suc zero))) h e s = absurd (omega arith)
along_a (suc (suc (suc (suc q)))) h e s = absurd (omega arith)

-- in 1 and 3 along b
pub along_b :
    (q : ℕ) {x y : ℕ} {a b : ℤ} → q < 4 → (q % 2 ≡ 0 → ⊥) → Stands q x y a b → Stands q ∣ b ∣ ∣ a ∣ a b
along_b zero h odd s = absurd (odd refl)
along_b (suc zero) {x} {y} h odd s = sized (abs_of s.is_b) (abs-neg-pos y s.is_a) s
along_b (suc (suc zero)) h odd s = absurd (odd refl)
along_b (suc (suc (suc zero))) {x} {y} h odd s =
    sized (abs-neg-pos x s.is_b) (abs_of (s.is_a ∙ neg_ℤ-neg_ℤ (pos y))) s
along_b (suc (suc (suc (suc q)))) h odd s = absurd (omega arith)

-- ---- turning on

-- a quarter turn more
pub one_more_turn : {q x y : ℕ} {a b : ℤ} → Stands q x y a b → Stands (suc q) x y (neg_ℤ b) a
one_more_turn s = record { some = s.some; is_a = ap neg_ℤ s.is_b; is_b = s.is_a }

-- after four it stands where it stood
pub four-turns : {x y : ℕ} {a b : ℤ} → Stands 4 x y a b → Stands 0 x y a b
four-turns {x} {y} s =
    record { some = s.some; is_a = s.is_a ∙ neg_ℤ-neg_ℤ (pos x); is_b = s.is_b ∙ neg_ℤ-neg_ℤ (pos y) }
