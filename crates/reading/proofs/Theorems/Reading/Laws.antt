-- What callers use of readings: the exact value alone decides whether it is in range and what its units are, be it a
-- float or a decimal; units read lie within the range; the tests of whole units; and units handed back are read again
-- as they were. Assumes nothing.
use Rattle.std.specs.Prelude.{◌≡◌, ℕ, zero, suc, ◌*◌, ◌^◌, ◌<◌, ◌≤◌, Bool, true, false, cond, leb, ℤ, pos, negsuc, nat_le, refl, Float, Result, Ok, Err, IfOk}
use Rattle.std.proofs.Common.{sym, ap, ap₂, ◌∙◌, true≢false, zero-le, le_trans, le_of_mul-le-mul_right, mul-le-mul_right, arith, leb-true, le-leb, le-ltb, lit<, lit≤, pow_pos}
use Rattle.std.proofs.lemmas.Bool.{lt-leb}
use Rattle.std.specs.Float.{nan, inf, fin}
use Rattle.std.specs.Float.Ieee.{up, down}
use Rattle.std.specs.Float.Ieee.Exact.{HasValue}
use Rattle.std.specs.Float.Ieee.Fits.{down_pos}
use Rattle.rounding.specs.Nearest.{rounded}
use Rattle.rounding.proofs.Theorems.Nearest.Laws.{nearest-le, nearest_whole, rounded_same}
use Rattle.rounding.specs.Signed.{∣◌∣, minus, signed}
use Rattle.rounding.proofs.Theorems.Signed.Laws.{signed-abs}
use Rattle.reading.specs.Reading.{Range, range_of, limit, is_within, Within, Units, in_units, float_units, decimal_units}
use Rattle.reading.specs.Grid.{value_of}
use Rattle.reading.proofs.Theorems.Grid.Laws.{value_exact}
use Rattle.reading.specs.declared.quantity.Quantity.{Quantity}
use Rattle.reading.specs.declared.quantity.Quantity.TheVariants.{Tristimulus, Lightness, Opponent}
use Rattle.reading.specs.declared.quantity.ReadError.TheVariants.{OutOfRange}
use Rattle.reading.specs.declared.decimal.Decimal.{Decimal}

-- ---- in the range or out of it, by the exact value

module _ (r : Range) (below : Bool) (a c : ℕ) where
  abbrev units_if : Bool → Units
  units_if inside = cond inside (Ok (rounded below (a * r.per_one) c)) (Err OutOfRange)

  pub in_units_out : limit r below * c < a → in_units r below a c ≡ Err OutOfRange
  in_units_out h = ap units_if (lt-leb a (limit r below * c) h)

  pub in_units_in : a ≤ limit r below * c → in_units r below a c ≡ Ok (rounded below (a * r.per_one) c)
  in_units_in h = ap units_if (le-leb a (limit r below * c) h)

pub decimal_units_out :
    (q : Quantity) (d : Decimal) → limit (range_of q) d.below * 1000000 < d.millionths →
    decimal_units q d ≡ Err OutOfRange
unfolding decimal_units
decimal_units_out q d h = in_units_out (range_of q) d.below d.millionths 1000000 h

pub decimal_units_in : (q : Quantity) (d : Decimal) → d.millionths ≤ limit (range_of q) d.below * 1000000
    → decimal_units q d ≡ Ok (rounded d.below (d.millionths * (range_of q).per_one) 1000000)
unfolding decimal_units
decimal_units_in q d h = in_units_in (range_of q) d.below d.millionths 1000000 h

-- ---- equal fractions are read the same

le_same : (a b c d : ℕ) → 0 < b → a * d ≡ c * b → (n : ℕ) → a ≤ n * b → c ≤ n * d
le_same a b c d hb same n h = le_of_mul-le-mul_right {k = b} (omega (arith, mul-le-mul_right d h)) hb

leb_same : (a b c d : ℕ) → 0 < b → 0 < d → a * d ≡ c * b → (n : ℕ) → nat_le a (n * b) ≡ nat_le c (n * d)
leb_same a b c d hb hd same n = go (nat_le a (n * b)) (nat_le c (n * d)) refl refl
  where
    go : (s t : Bool) → nat_le a (n * b) ≡ s → nat_le c (n * d) ≡ t → s ≡ t
    go true t p q = sym (le-leb c (n * d) (le_same a b c d hb same n (leb-true a (n * b) p))) ∙ q
    go false true p q = sym p ∙ le-leb a (n * b) (le_same c d a b hd (sym same) n (leb-true c (n * d) q))
    go false false p q = refl

pub in_units_same :
    (r : Range) (below : Bool) (a b c d : ℕ) → 0 < b → 0 < d → a * d ≡ c * b → in_units r below a b ≡ in_units r below c d
in_units_same r below a b c d hb hd same =
    ap₂ (λ (t : Bool) (z : ℤ). cond t (Ok z) (Err OutOfRange)) (leb_same a b c d hb hd same (limit r below))
    (rounded_same below (a * r.per_one) b (c * r.per_one) d hb hd (omega (arith, ap (λ (n : ℕ). n * r.per_one) same)))

-- a float is read as any fraction that it equals
pub float_units_of_value :
    (q : Quantity) (x : Float) (below : Bool) (a c : ℕ) → 0 < c → HasValue x below a c →
    float_units q x ≡ in_units (range_of q) below a c
unfolding float_units
float_units_of_value q nan below a c hc h = absurd h
float_units_of_value q (inf t) below a c hc h = absurd h
float_units_of_value q (fin t m e) below a c hc h =
    ap (λ (s : Bool). in_units (range_of q) s (m * up e) (down e)) h.0
    ∙ in_units_same (range_of q) below (m * up e) (down e) a c (down_pos e) hc h.1

-- one rule for both: a float and a decimal of one value are read the same
pub float_as_decimal :
    (q : Quantity) (x : Float) (d : Decimal) → HasValue x d.below d.millionths 1000000 →
    float_units q x ≡ decimal_units q d
unfolding decimal_units
float_as_decimal q x d h = float_units_of_value q x d.below d.millionths 1000000 (lit< tt) h

-- ---- what is read lies within the range

within_of_signed : (r : Range) (below : Bool) (n : ℕ) → n ≤ limit r below * r.per_one → Within r (signed below n)
within_of_signed r false n h = record { size = rw (le-ltb n 0 zero-le) h }
within_of_signed r true zero h = record { size = zero-le }
within_of_signed r true (suc n) h = record { size = h }

pub in_units_within : (r : Range) (below : Bool) (a c : ℕ) (z : ℤ) → 0 < c → in_units r below a c ≡ Ok z → Within r z
in_units_within r below a c z hc h = go (nat_le a (limit r below * c)) refl h
  where
    go :
        (t : Bool) → nat_le a (limit r below * c) ≡ t → cond t (Ok (rounded below (a * r.per_one) c)) (Err OutOfRange) ≡ Ok z →
        Within r z
    go true t g =
        let e : rounded below (a * r.per_one) c ≡ z = cc in
        let l : a ≤ limit r below * c = leb-true a (limit r below * c) t in
        let n = limit r below * r.per_one in
        rw e at (within_of_signed r below _
        (nearest-le (a * r.per_one) c n hc (omega (arith, mul-le-mul_right r.per_one l))))
    go false t g = let no : ◌≡◌ {A = ℕ} 0 1 = cc in absurd (omega arith)

pub float-units-within : (q : Quantity) (x : Float) (z : ℤ) → float_units q x ≡ Ok z → Within (range_of q) z
unfolding float_units
float-units-within q nan z h = let no : ◌≡◌ {A = ℕ} 0 1 = cc in absurd (omega arith)
float-units-within q (inf t) z h = let no : ◌≡◌ {A = ℕ} 0 1 = cc in absurd (omega arith)
float-units-within q (fin t m e) z h = in_units_within (range_of q) t (m * up e) (down e) z (down_pos e) h

pub decimal-units-within : (q : Quantity) (d : Decimal) (z : ℤ) → decimal_units q d ≡ Ok z → Within (range_of q) z
unfolding decimal_units
decimal-units-within q d z h = in_units_within (range_of q) d.below d.millionths 1000000 z (lit< tt) h

-- what holds of a value, if there is one, holds if it is one
pub if_ok : {T E : Type 0} {P : T → Type 0} (r : Result T E) → ((x : T) → r ≡ Ok x → P x) → IfOk r P
if_ok (Ok x) h = h x refl
if_ok (Err e) h = tt

-- no quantity lies further below zero than it may above, or further above than 256; none has a finer unit than the
-- grid's
pub limit-le-high : (q : Quantity) (below : Bool) → limit (range_of q) below ≤ (range_of q).high
limit-le-high Tristimulus true = lit≤ tt
limit-le-high Tristimulus false = lit≤ tt
limit-le-high Lightness true = lit≤ tt
limit-le-high Lightness false = lit≤ tt
limit-le-high Opponent true = lit≤ tt
limit-le-high Opponent false = lit≤ tt

pub high_le : (q : Quantity) → (range_of q).high ≤ 256
high_le Tristimulus = lit≤ tt
high_le Lightness = lit≤ tt
high_le Opponent = lit≤ tt

pub per_one_le : (q : Quantity) → (range_of q).per_one ≤ 2 ^ 20
per_one_le Tristimulus = lit≤ tt
per_one_le Lightness = lit≤ tt
per_one_le Opponent = lit≤ tt

pub limit-le : (q : Quantity) (below : Bool) → limit (range_of q) below ≤ 256
limit-le q below = le_trans (limit-le-high q below) (high_le q)

-- for X, Y, Z at most 150000000, for L* at most 120 * 2 ^ 20, for a* and b* at most 256 * 2 ^ 20
pub abs_le_of_within : (q : Quantity) (z : ℤ) → Within (range_of q) z → ∣ z ∣ ≤ (range_of q).high * (range_of q).per_one
abs_le_of_within q z h = le_trans h.size (mul-le-mul_right (range_of q).per_one (limit-le-high q (minus z)))

some_of_minus : (z : ℤ) → minus z ≡ true → 0 < ∣ z ∣
some_of_minus (pos n) e = absurd (true≢false (sym e ∙ le-ltb n 0 zero-le))
some_of_minus (negsuc n) e = omega arith

-- X, Y, Z and L* are not below zero
pub not_minus_of_within : (r : Range) (z : ℤ) → r.low ≡ 0 → Within r z → minus z ≡ false
not_minus_of_within r (pos n) e h = le-ltb n 0 zero-le
not_minus_of_within r (negsuc n) e h = absurd (omega (arith, rw e at h.size))

pub within_of_not_minus : (r : Range) (z : ℤ) → minus z ≡ false → ∣ z ∣ ≤ r.high * r.per_one → Within r z
within_of_not_minus r z e h = record { size = rw e h }

pub within-opponent : (z : ℤ) → ∣ z ∣ ≤ 256 * 2 ^ 20 → Within (range_of Opponent) z
within-opponent z h = record { size = either (minus z) }
  where
    either : (t : Bool) → ∣ z ∣ ≤ limit (range_of Opponent) t * 2 ^ 20
    either true = h
    either false = h

-- ---- the tests of whole units on the grid: L* from 0 to 120, a* and b* up to 256 from zero

module _ (z : ℤ) where
  pub below_lightness : minus z ≡ true → is_within (range_of Lightness) z ≡ false
  below_lightness e = rw e (lt-leb ∣ z ∣ 0 (some_of_minus z e))

  pub is_lightness_lem : minus z ≡ false → is_within (range_of Lightness) z ≡ leb ∣ z ∣ (120 * 2 ^ 20)
  is_lightness_lem e = rw e

  pub is_opponent_lem : is_within (range_of Opponent) z ≡ leb ∣ z ∣ (256 * 2 ^ 20)
  is_opponent_lem = go (minus z)
    where
      go : (below : Bool) → leb ∣ z ∣ (limit (range_of Opponent) below * 2 ^ 20) ≡ leb ∣ z ∣ (256 * 2 ^ 20)
      go true = refl
      go false = refl

  pub opponent-le : is_within (range_of Opponent) z ≡ true → ∣ z ∣ ≤ 256 * 2 ^ 20
  opponent-le e = leb-true _ _ (sym is_opponent_lem ∙ e)

-- ---- units handed back are read again as they were

-- whole units within the range are read as they are
in_units_whole : (r : Range) (z : ℤ) → 0 < r.per_one → Within r z → in_units r (minus z) ∣ z ∣ r.per_one ≡ Ok z
in_units_whole r z hk h =
    in_units_in r (minus z) ∣ z ∣ r.per_one h.size
    ∙ ap Ok (ap (signed (minus z)) (nearest_whole ∣ z ∣ r.per_one hk) ∙ signed-abs z)

-- for every quantity on the grid
pub hand_back_and_read :
    (q : Quantity) (z : ℤ) → (range_of q).per_one ≡ 2 ^ 20 → Within (range_of q) z → float_units q (value_of z) ≡ Ok z
hand_back_and_read q z e h =
    let small : ∣ z ∣ ≤ 2 ^ 53 = omega (arith, high_le q, rw e at (abs_le_of_within q z h)) in
    float_units_of_value q (value_of z) (minus z) ∣ z ∣ (2 ^ 20) (pow_pos 20) (value_exact z small)
    ∙ ap (in_units (range_of q) (minus z) ∣ z ∣) (sym e)
    ∙ in_units_whole (range_of q) z (rw e (pow_pos 20)) h

pub opponent_back_and_read : (z : ℤ) → ∣ z ∣ ≤ 256 * 2 ^ 20 → float_units Opponent (value_of z) ≡ Ok z
opponent_back_and_read z h = hand_back_and_read Opponent z refl (within-opponent z h)

pub lightness_back_and_read : (z : ℤ) → minus z ≡ false → ∣ z ∣ ≤ 120 * 2 ^ 20 → float_units Lightness (value_of z) ≡ Ok z
lightness_back_and_read z e h = hand_back_and_read Lightness z refl (within_of_not_minus (range_of Lightness) z e h)
