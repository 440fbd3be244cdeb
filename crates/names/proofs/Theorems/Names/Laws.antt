-- What follows from the rule of turning: the axis met is told by the signs of a and b, it is always just one, and a hue
-- is equal exactly when the cross is 0 and the dot not negative, as it always is from a neutral reference.
-- Assumes nothing.
use Rattle.std.specs.Prelude.{◌≡◌, Bool, not, cond, ◌&&◌, ℕ, zero, suc, T, ℤ, pos, negsuc, neg_ℤ}
use Rattle.std.proofs.Math.Path.{refl, ap₂}
use Rattle.std.proofs.Common.{sym, ap, ◌∙◌, zero-le, zero-lt-suc, arith, lt-ltb, le-ltb}
use Rattle.std.proofs.Math.Bool.{true, false}
use Rattle.std.specs.Int.Signed.{lt_z}
use Rattle.rounding.specs.Signed.{minus}
use Rattle.rounding.proofs.Theorems.Signed.Difference.{diff_same, diff_parts, diff_neg, diff_add, diff_sub, diff_mul}
use Rattle.colour.specs.declared.conversion.GridColour.{GridColour}
use Rattle.sheet.specs.Sheet.{same_hue, cross, dot, comparison}
use Rattle.sheet.specs.declared.formula.Formula.{Formula}
use Rattle.names.specs.Names.{met, first_met, next_met, hue_named, hue_name}
use Rattle.names.specs.declared.Axis.{Axis}
use Rattle.names.specs.declared.Axis.TheVariants.{Redder, Yellower, Greener, Bluer}
use Rattle.names.specs.declared.Hue.TheVariants.{Equal, Towards}

-- ---- signs

abbrev pub plus : ℤ → Bool
plus z = lt_z (pos 0) z

plus-neg : (z : ℤ) → plus (neg_ℤ z) ≡ minus z
plus-neg (pos zero) = refl
plus-neg (pos (suc n)) = sym (le-ltb (suc n) 0 zero-le)
plus-neg (negsuc n) = lt-ltb 0 (suc n) (zero-lt-suc n)

minus-neg : (z : ℤ) → minus (neg_ℤ z) ≡ plus z
minus-neg (pos zero) = refl
minus-neg (pos (suc n)) = sym (lt-ltb 0 (suc n) (zero-lt-suc n))
minus-neg (negsuc n) = le-ltb (suc n) 0 zero-le

absurd_test : {A : Type 0} {p : Bool} → p ≡ true → p ≡ false → A
absurd_test h g = let no : ◌≡◌ {A = ℕ} 0 1 = cc in absurd (omega arith)

-- a number is below 0, is 0, or is above 0
pub data Sign (z : ℤ) : Type 0 where
  below : minus z ≡ true → plus z ≡ false → Sign z
  none : z ≡ pos 0 → minus z ≡ false → plus z ≡ false → Sign z
  above : minus z ≡ false → plus z ≡ true → Sign z

pub sign : (z : ℤ) → Sign z
sign (pos zero) = none refl refl refl
sign (pos (suc n)) = above (le-ltb (suc n) 0 zero-le) (lt-ltb 0 (suc n) (zero-lt-suc n))
sign (negsuc n) = below refl refl

-- ---- the cross and the dot of (a, b) with each axis

module _ (a b : ℤ) where
  cross_redder : cross a b (pos 1) (pos 0) ≡ neg_ℤ b
  unfolding cross
  cross_redder =
      diff_same _ _ _ _ (omega arith) (diff_sub (diff_mul (diff_parts a) (diff_parts (pos 0)))
      (diff_mul (diff_parts (pos 1)) (diff_parts b))) (diff_neg (diff_parts b))

  dot_redder : dot a b (pos 1) (pos 0) ≡ a
  unfolding dot
  dot_redder =
      diff_same _ _ _ _ (omega arith) (diff_add (diff_mul (diff_parts a) (diff_parts (pos 1)))
      (diff_mul (diff_parts b) (diff_parts (pos 0)))) (diff_parts a)

  cross_yellower : cross a b (pos 0) (pos 1) ≡ a
  unfolding cross
  cross_yellower =
      diff_same _ _ _ _ (omega arith) (diff_sub (diff_mul (diff_parts a) (diff_parts (pos 1)))
      (diff_mul (diff_parts (pos 0)) (diff_parts b))) (diff_parts a)

  dot_yellower : dot a b (pos 0) (pos 1) ≡ b
  unfolding dot
  dot_yellower =
      diff_same _ _ _ _ (omega arith) (diff_add (diff_mul (diff_parts a) (diff_parts (pos 0)))
      (diff_mul (diff_parts b) (diff_parts (pos 1)))) (diff_parts b)

  cross_greener : cross a b (negsuc 0) (pos 0) ≡ b
  unfolding cross
  cross_greener =
      diff_same _ _ _ _ (omega arith) (diff_sub (diff_mul (diff_parts a) (diff_parts (pos 0)))
      (diff_mul (diff_parts (negsuc 0)) (diff_parts b))) (diff_parts b)

  dot_greener : dot a b (negsuc 0) (pos 0) ≡ neg_ℤ a
  unfolding dot
  dot_greener =
      diff_same _ _ _ _ (omega arith) (diff_add (diff_mul (diff_parts a) (diff_parts (negsuc 0)))
      (diff_mul (diff_parts b) (diff_parts (pos 0)))) (diff_neg (diff_parts a))

  cross_bluer : cross a b (pos 0) (negsuc 0) ≡ neg_ℤ a
  unfolding cross
  cross_bluer =
      diff_same _ _ _ _ (omega arith) (diff_sub (diff_mul (diff_parts a) (diff_parts (negsuc 0)))
      (diff_mul (diff_parts (pos 0)) (diff_parts b))) (diff_neg (diff_parts a))

  dot_bluer : dot a b (pos 0) (negsuc 0) ≡ neg_ℤ b
  unfolding dot
  dot_bluer =
      diff_same _ _ _ _ (omega arith) (diff_add (diff_mul (diff_parts a) (diff_parts (pos 0)))
      (diff_mul (diff_parts b) (diff_parts (negsuc 0)))) (diff_neg (diff_parts b))

-- so an axis is met in one of the quarters beside it: the quarter's edge that lies on the axis is left out, its other
-- edge counts

abbrev both : Bool → Bool → Bool
both p q = p && not q

module _ (a b : ℤ) where
  pub met_redder : met false a b Redder ≡ both (minus b) (minus a)
  unfolding met
  met_redder = ap₂ both (ap plus (cross_redder a b) ∙ plus-neg b) (ap minus (dot_redder a b))

  pub met_yellower : met false a b Yellower ≡ both (plus a) (minus b)
  unfolding met
  met_yellower = ap₂ both (ap plus (cross_yellower a b)) (ap minus (dot_yellower a b))

  pub met_greener : met false a b Greener ≡ both (plus b) (plus a)
  unfolding met
  met_greener = ap₂ both (ap plus (cross_greener a b)) (ap minus (dot_greener a b) ∙ minus-neg a)

  pub met_bluer : met false a b Bluer ≡ both (minus a) (plus b)
  unfolding met
  met_bluer = ap₂ both (ap plus (cross_bluer a b) ∙ plus-neg a) (ap minus (dot_bluer a b) ∙ minus-neg b)

  pub met_redder_back : met true a b Redder ≡ both (plus b) (minus a)
  unfolding met
  met_redder_back = ap₂ both (ap minus (cross_redder a b) ∙ minus-neg b) (ap minus (dot_redder a b))

  pub met_yellower_back : met true a b Yellower ≡ both (minus a) (minus b)
  unfolding met
  met_yellower_back = ap₂ both (ap minus (cross_yellower a b)) (ap minus (dot_yellower a b))

  pub met_greener_back : met true a b Greener ≡ both (minus b) (plus a)
  unfolding met
  met_greener_back = ap₂ both (ap minus (cross_greener a b)) (ap minus (dot_greener a b) ∙ minus-neg a)

  pub met_bluer_back : met true a b Bluer ≡ both (plus a) (plus b)
  unfolding met
  met_bluer_back = ap₂ both (ap minus (cross_bluer a b) ∙ minus-neg a) (ap minus (dot_bluer a b) ∙ minus-neg b)

-- ---- the table: the first axis met, by the signs of a and b

abbrev pub pick : (redder greener bluer : Bool) → Axis
pick redder greener bluer = cond redder Redder (cond greener Greener (cond bluer Bluer Yellower))

pick_is : {p q r p' q' r' : Bool} → p ≡ p' → q ≡ q' → r ≡ r' → pick p q r ≡ pick p' q' r'
pick_is hp hq hr = cc

module _ (a b : ℤ) where
  pub first_anticlockwise_lem :
      first_met false a b ≡ pick (both (minus b) (minus a)) (both (plus b) (plus a)) (both (minus a) (plus b))
  unfolding first_met
  first_anticlockwise_lem = pick_is (met_redder a b) (met_greener a b) (met_bluer a b)

  pub first_clockwise_lem :
      first_met true a b ≡ pick (both (plus b) (minus a)) (both (minus b) (plus a)) (both (plus a) (plus b))
  unfolding first_met
  first_clockwise_lem = pick_is (met_redder_back a b) (met_greener_back a b) (met_bluer_back a b)

-- row by row, as the code goes through it
and_false : (p : Bool) → (p && false) ≡ false
and_false true = refl
and_false false = refl

pub not_minus : (z : ℤ) → plus z ≡ true → minus z ≡ false
not_minus z h = go (sign z)
  where
    go : Sign z → minus z ≡ false
    go (below p q) = absurd_test h q
    go (none e p q) = p
    go (above p q) = p

module _ (a b : ℤ) where
  module _ (up : plus b ≡ true) where
    pub ahead_first_quarter : plus a ≡ true → Yellower ≡ first_met false a b
    ahead_first_quarter h = sym (first_anticlockwise_lem a b ∙ rw (up, h, not_minus b up, not_minus a h))

    pub ahead-second-quarter : plus a ≡ false → Greener ≡ first_met false a b
    ahead-second-quarter h = sym (first_anticlockwise_lem a b ∙ rw (up, h, not_minus b up))

    pub behind-second-quarter : minus a ≡ true → Yellower ≡ first_met true a b
    behind-second-quarter h = sym (first_clockwise_lem a b ∙ rw (up, h, not_minus b up) (rw and_false))

    pub behind_first_quarter : minus a ≡ false → Redder ≡ first_met true a b
    behind_first_quarter h = sym (first_clockwise_lem a b ∙ rw (up, h))

  module _ (flat : plus b ≡ false) where
    pub ahead-third-quarter : minus a ≡ true → Bluer ≡ first_met false a b
    ahead-third-quarter h = sym (first_anticlockwise_lem a b ∙ rw (flat, h) (rw and_false))

    pub ahead-fourth-quarter : minus a ≡ false → minus b ≡ true → Redder ≡ first_met false a b
    ahead-fourth-quarter h g = sym (first_anticlockwise_lem a b ∙ rw (flat, h, g))

    pub ahead-right : minus a ≡ false → minus b ≡ false → Yellower ≡ first_met false a b
    ahead-right h g = sym (first_anticlockwise_lem a b ∙ rw (flat, h, g))

    pub behind-fourth-quarter : plus a ≡ true → Bluer ≡ first_met true a b
    behind-fourth-quarter h = sym (first_clockwise_lem a b ∙ rw (flat, h) (rw and_false))

    pub behind-third-quarter : plus a ≡ false → minus b ≡ true → Greener ≡ first_met true a b
    behind-third-quarter h g = sym (first_clockwise_lem a b ∙ rw (flat, h, g))

    pub behind-left : plus a ≡ false → minus b ≡ false → Yellower ≡ first_met true a b
    behind-left h g = sym (first_clockwise_lem a b ∙ rw (flat, h, g))

-- ---- just one axis is met

-- exactly one of four holds
abbrev one : (p q r s : Bool) → Bool
one true q r s = not q && not r && not s
one false true r s = not r && not s
one false false true s = not s
one false false false s = s

-- the axis is met, and no other is
pub record OnlyMet (clockwise : Bool) (a b : ℤ) (axis : Axis) : Type 0 where
  pub meets : met clockwise a b axis ≡ true
  pub alone : (other : Axis) → met clockwise a b other ≡ true → other ≡ axis

module _ (w : Bool) (a b : ℤ) where
  only_one :
      (p q r s : Bool) →
      met w a b Redder ≡ p → met w a b Yellower ≡ q → met w a b Greener ≡ r → met w a b Bluer ≡ s →
      T (one p q r s) → OnlyMet w a b (first_met w a b)
  unfolding first_met
  only_one true false false false hp hq hr hs t = rw hp (record { meets = hp; alone = others })
    where
      others : (u : Axis) → met w a b u ≡ true → u ≡ Redder
      others Redder h = refl
      others Yellower h = absurd_test h hq
      others Greener h = absurd_test h hr
      others Bluer h = absurd_test h hs
  only_one false true false false hp hq hr hs t = rw (hp, hr, hs) (record { meets = hq; alone = others })
    where
      others : (u : Axis) → met w a b u ≡ true → u ≡ Yellower
      others Redder h = absurd_test h hp
      others Yellower h = refl
      others Greener h = absurd_test h hr
      others Bluer h = absurd_test h hs
  only_one false false true false hp hq hr hs t = rw (hp, hr) (record { meets = hr; alone = others })
    where
      others : (u : Axis) → met w a b u ≡ true → u ≡ Greener
      others Redder h = absurd_test h hp
      others Yellower h = absurd_test h hq
      others Greener h = refl
      others Bluer h = absurd_test h hs
  only_one false false false true hp hq hr hs t = rw (hp, hr, hs) (record { meets = hs; alone = others })
    where
      others : (u : Axis) → met w a b u ≡ true → u ≡ Bluer
      others Redder h = absurd_test h hp
      others Yellower h = absurd_test h hq
      others Greener h = absurd_test h hr
      others Bluer h = refl
  only_one true true r s hp hq hr hs t = absurd t
  only_one true false true s hp hq hr hs t = absurd t
  only_one true false false true hp hq hr hs t = absurd t
  only_one false true true s hp hq hr hs t = absurd t
  only_one false true false true hp hq hr hs t = absurd t
  only_one false false true true hp hq hr hs t = absurd t
  only_one false false false false hp hq hr hs t = absurd t

-- the signs of a and b put (a, b) into one of eight places, four on the axes and four between them
module _ {a b : ℤ} (some : a ≡ pos 0 → b ≡ pos 0 → ⊥) where
  one_ahead :
      Sign a → Sign b →
      T (one (both (minus b) (minus a)) (both (plus a) (minus b)) (both (plus b) (plus a)) (both (minus a) (plus b)))
  one_ahead (below p q) (below r s) = rw (p, q, r, s) tt
  one_ahead (below p q) (none e r s) = rw (p, q, r, s) tt
  one_ahead (below p q) (above r s) = rw (p, q, r, s) tt
  one_ahead (none e p q) (below r s) = rw (p, q, r, s) tt
  one_ahead (none e p q) (none f r s) = absurd (some e f)
  one_ahead (none e p q) (above r s) = rw (p, q, r, s) tt
  one_ahead (above p q) (below r s) = rw (p, q, r, s) tt
  one_ahead (above p q) (none e r s) = rw (p, q, r, s) tt
  one_ahead (above p q) (above r s) = rw (p, q, r, s) tt

  one_behind :
      Sign a → Sign b →
      T (one (both (plus b) (minus a)) (both (minus a) (minus b)) (both (minus b) (plus a)) (both (plus a) (plus b)))
  one_behind (below p q) (below r s) = rw (p, q, r, s) tt
  one_behind (below p q) (none e r s) = rw (p, q, r, s) tt
  one_behind (below p q) (above r s) = rw (p, q, r, s) tt
  one_behind (none e p q) (below r s) = rw (p, q, r, s) tt
  one_behind (none e p q) (none f r s) = absurd (some e f)
  one_behind (none e p q) (above r s) = rw (p, q, r, s) tt
  one_behind (above p q) (below r s) = rw (p, q, r, s) tt
  one_behind (above p q) (none e r s) = rw (p, q, r, s) tt
  one_behind (above p q) (above r s) = rw (p, q, r, s) tt

-- THE RULE NAMES ONE AXIS: from any (a, b) but (0, 0), a turn either way meets just one axis within its first quarter,
-- the one that `first_met` is
pub one_axis_met :
    (clockwise : Bool) (a b : ℤ) → (a ≡ pos 0 → b ≡ pos 0 → ⊥) → OnlyMet clockwise a b (first_met clockwise a b)
one_axis_met false a b some =
    only_one false a b _ _ _ _ (met_redder a b) (met_yellower a b) (met_greener a b) (met_bluer a b)
    (one_ahead some (sign a) (sign b))
one_axis_met true a b some =
    only_one true a b _ _ _ _ (met_redder_back a b) (met_yellower_back a b) (met_greener_back a b) (met_bluer_back a b)
    (one_behind some (sign a) (sign b))

-- ---- the axis after an axis: 0, 90, 180, 270 degrees and round again, or back

abbrev pub turn : (clockwise : Bool) → Axis → Axis
turn false Redder = Yellower
turn false Yellower = Greener
turn false Greener = Bluer
turn false Bluer = Redder
turn true Redder = Bluer
turn true Bluer = Greener
turn true Greener = Yellower
turn true Yellower = Redder

pub next-turn : (clockwise : Bool) (axis : Axis) → next_met clockwise axis ≡ turn clockwise axis
unfolding first_met met cross dot
next-turn false Redder = refl
next-turn false Yellower = refl
next-turn false Greener = refl
next-turn false Bluer = refl
next-turn true Redder = refl
next-turn true Yellower = refl
next-turn true Greener = refl
next-turn true Bluer = refl

-- ---- equal in hue

pub hue-equal : (cross dot a b : ℤ) → same_hue cross dot ≡ true → hue_named cross dot a b ≡ Equal
unfolding hue_named
hue-equal cross dot a b h = rw h

pub hue_towards :
    (cross dot a b : ℤ) → same_hue cross dot ≡ false →
    hue_named cross dot a b ≡ Towards (first_met (minus cross) a b) (next_met (minus cross) (first_met (minus cross) a b))
unfolding hue_named
hue_towards cross dot a b h = rw h

-- the hue is equal only if the cross is 0 and the dot not negative; with `hue-equal`, exactly then
pub same_of_equal : (cross dot a b : ℤ) → hue_named cross dot a b ≡ Equal → same_hue cross dot ≡ true
unfolding hue_named
same_of_equal cross dot a b e = go (same_hue cross dot) e
  where
    go :
        (s : Bool) → cond s Equal (Towards (first_met (minus cross) a b)
        (next_met (minus cross) (first_met (minus cross) a b))) ≡ Equal → s ≡ true
    go true h = refl
    go false h = let no : ◌≡◌ {A = ℕ} 0 1 = cc in absurd (omega arith)

-- ---- a neutral reference

module _ (a b : ℤ) where
  cross-neutral : cross (pos 0) (pos 0) a b ≡ pos 0
  unfolding cross
  cross-neutral =
      diff_same _ _ _ _ (omega arith) (diff_sub (diff_mul (diff_parts (pos 0)) (diff_parts b))
      (diff_mul (diff_parts a) (diff_parts (pos 0)))) (diff_parts (pos 0))

  dot-neutral : dot (pos 0) (pos 0) a b ≡ pos 0
  unfolding dot
  dot-neutral =
      diff_same _ _ _ _ (omega arith) (diff_add (diff_mul (diff_parts (pos 0)) (diff_parts a))
      (diff_mul (diff_parts (pos 0)) (diff_parts b))) (diff_parts (pos 0))

-- A NEUTRAL REFERENCE WITH a = b = 0 IS ALWAYS EQUAL IN HUE, whatever the test specimen is
pub neutral-equal : (R T : GridColour) → R.a.0 ≡ pos 0 → R.b.0 ≡ pos 0 → hue_name R T ≡ Equal
unfolding hue_name same_hue
neutral-equal R T ha hb =
    rw (ha, hb, cross-neutral T.a.0 T.b.0, dot-neutral T.a.0 T.b.0)
    (hue-equal (pos 0) (pos 0) (pos 0) (pos 0) refl)

-- ---- a comparison holds the cross and the dot that its hue is named by

pub hue_of_comparison :
    (n : ℕ) (f : Formula) (l c : ℕ) (R T : GridColour) →
    hue_named (comparison n f l c R T).cross (comparison n f l c R T).dot R.a.0 R.b.0 ≡ hue_name R T
unfolding comparison hue_name
hue_of_comparison n f l c R T = refl
