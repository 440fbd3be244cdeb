-- A reading is refused by the first of its rules that holds, and placed where none does. Assumes nothing.
use Rattle.std.specs.Prelude.{◌≡◌, refl, Bool, true, false, ◌&&◌, cond, ◌⊎◌, ℕ, ◌*◌, ◌^◌, ◌<◌, leb, ℤ, Float, Ok, Err}
use Rattle.std.proofs.Common.{sym, ◌∙◌, inl, inr, ⊎_elim, not-le_of_lt, leb-true, leb-false}
use Rattle.std.specs.Float.{nan, inf, fin}
use Rattle.std.specs.Float.Ieee.{up, down}
use Rattle.rounding.specs.Nearest.{rounded}
use Rattle.rounding.specs.Signed.{∣◌∣}
use Rattle.reading.specs.Reading.{Range, range_of, limit, is_within, in_units, float_units, decimal_units, Units}
use Rattle.reading.proofs.Theorems.Reading.Laws.{is_opponent_lem, opponent-le}
use Rattle.reading.specs.declared.decimal.Decimal.{Decimal}
use Rattle.reading.specs.declared.quantity.Quantity.{Quantity}
use Rattle.reading.specs.declared.quantity.Quantity.TheVariants.{Opponent}
use Rattle.reading.specs.declared.quantity.ReadError.TheVariants as U
use Rattle.colour.specs.declared.white.White.{White}
use Rattle.colour.specs.declared.conversion.GridColour.{GridColour}
use Rattle.colour.specs.Placed.{Reading, Written, Placed}
use Rattle.colour.specs.declared.placed.Values.TheVariants.{Xyz, Lab}
use Rattle.colour.specs.Placed.{take, accepted, converted, place_xyz, place_lab, place_by, place, place_written}
use Rattle.colour.specs.Placed.Exactly.{IsNotFinite, NotFinite, FloatOutside, DecimalOutside}
use Rattle.colour.specs.Placed.Exactly.{OutOfRange, WrittenOutOfRange, Beyond256, ComeBeyond, Beyond, WrittenBeyond}
use Rattle.colour.specs.Placed.Exactly.{Read, not_finite, out, beyond, at}
use Rattle.colour.specs.declared.refusal.Refusal.TheVariants as Why

-- ---- one number

data OfOne (NotFinite Outside : Type 0) : Units → Type 0 where
  has : (z : ℤ) → ¬ NotFinite → ¬ Outside → OfOne NotFinite Outside (Ok z)
  no_number : NotFinite → OfOne NotFinite Outside (Err U.NotFinite)
  outside : ¬ NotFinite → Outside → OfOne NotFinite Outside (Err U.OutOfRange)

of_fraction : (r : Range) (below : Bool) (a c : ℕ) → OfOne ⊥ (limit r below * c < a) (in_units r below a c)
of_fraction r below a c = go (leb a (limit r below * c)) refl
  where
    go :
        (b : Bool) → leb a (limit r below * c) ≡ b →
        OfOne ⊥ (limit r below * c < a) (cond b (Ok (rounded below (a * r.per_one) c)) (Err U.OutOfRange))
    go true e = has _ (λ n. n) (λ h. not-le_of_lt h (leb-true _ _ e))
    go false e = outside (λ n. n) (leb-false _ _ e)

of_float : (q : Quantity) (x : Float) → OfOne (IsNotFinite x) (FloatOutside q x) (float_units q x)
unfolding float_units
of_float q nan = no_number tt
of_float q (inf below) = no_number tt
of_float q (fin below m e) = of_fraction (range_of q) below (m * up e) (down e)

of_decimal : (q : Quantity) (d : Decimal) → OfOne ⊥ (DecimalOutside q d) (decimal_units q d)
unfolding decimal_units
of_decimal q d = of_fraction (range_of q) d.below d.millionths 1000000

-- ---- three together

data Taken (NotFinite Outside : Type 0) (u v w : Units) (next : (x y z : ℤ) → Placed) : Placed → Type 0 where
  five : NotFinite → Taken NotFinite Outside u v w next (Err Why.NotANumber)
  six : ¬ NotFinite → Outside → Taken NotFinite Outside u v w next (Err Why.OutOfRange)
  handed :
      ¬ NotFinite → ¬ Outside → (x y z : ℤ) → u ≡ Ok x → v ≡ Ok y → w ≡ Ok z →
      Taken NotFinite Outside u v w next (next x y z)

neither : {A B C : Type 0} → ¬ A → ¬ B → ¬ C → ¬ (A ⊎ (B ⊎ C))
neither f g h = ⊎_elim f (⊎_elim g h)

taken :
    {N M K O P Q : Type 0} {u v w : Units} (next : (x y z : ℤ) → Placed) → OfOne N O u → OfOne M P v → OfOne K Q w →
    Taken (N ⊎ (M ⊎ K)) (O ⊎ (P ⊎ Q)) u v w next (take u v w next)
unfolding take
taken next (has x f o) (has y g p) (has z h q) = handed (neither f g h) (neither o p q) x y z refl refl refl
taken next (has x f o) (has y g p) (no_number k) = five (inr (inr k))
taken next (has x f o) (has y g p) (outside h q) = six (neither f g h) (inr (inr q))
taken next (has x f o) (no_number m) w = five (inr (inl m))
taken next (has x f o) (outside g p) (has z h q) = six (neither f g h) (inr (inl p))
taken next (has x f o) (outside g p) (no_number k) = five (inr (inr k))
taken next (has x f o) (outside g p) (outside h q) = six (neither f g h) (inr (inl p))
taken next (no_number n) v w = five (inl n)
taken next (outside f o) (has y g p) (has z h q) = six (neither f g h) (inl o)
taken next (outside f o) (has y g p) (no_number k) = five (inr (inr k))
taken next (outside f o) (has y g p) (outside h q) = six (neither f g h) (inl o)
taken next (outside f o) (no_number m) w = five (inr (inl m))
taken next (outside f o) (outside g p) (has z h q) = six (neither f g h) (inl o)
taken next (outside f o) (outside g p) (no_number k) = five (inr (inr k))
taken next (outside f o) (outside g p) (outside h q) = six (neither f g h) (inl o)

-- ---- a converted colour, and a whole reading

data Conversion (c : GridColour) : Placed → Type 0 where
  far : Beyond256 c → Conversion c (Err Why.Beyond256)
  near : ¬ (Beyond256 c) → Conversion c (Ok c)

conversion : (c : GridColour) → Conversion c (accepted c)
unfolding accepted
conversion c = go (is_within (range_of Opponent) c.a.0) refl (is_within (range_of Opponent) c.b.0) refl
  where
    beyond_of : (k : ℤ) → is_within (range_of Opponent) k ≡ false → 256 * 2 ^ 20 < ∣ k ∣
    beyond_of k e = leb-false _ _ (sym (is_opponent_lem k) ∙ e)

    inside : (k : ℤ) → is_within (range_of Opponent) k ≡ true → ¬ (256 * 2 ^ 20 < ∣ k ∣)
    inside k e h = not-le_of_lt h (opponent-le k e)

    go :
        (p : Bool) → is_within (range_of Opponent) c.a.0 ≡ p →
        (q : Bool) → is_within (range_of Opponent) c.b.0 ≡ q →
        Conversion c (cond (p && q) (Ok c) (Err Why.Beyond256))
    go false a q b = far (inl (beyond_of c.a.0 a))
    go true a false b = far (inr (beyond_of c.b.0 b))
    go true a true b = near (⊎_elim (inside c.a.0 a) (inside c.b.0 b))

-- X, Y, Z that were read, against a white
xyz-read :
    (w : White) {N O : Type 0} {u v t : Units} {p : Placed} → Taken N O u v t (place_xyz w) p →
    Read N O (ComeBeyond w u v t) p
xyz-read w (five n) = not_finite n
xyz-read w (six n o) = out n o
xyz-read w {N} {O} {u} {v} {t} (handed n o x y z ex ey ez) = go _ (conversion (converted w x y z))
  where
    same : (h : ComeBeyond w u v t) → Beyond256 (converted w x y z)
    same h =
        let X : h.X ≡ x = cc in
        let Y : h.Y ≡ y = cc in
        let Z : h.Z ≡ z = cc in
        rw (X, Y, Z) at h.beyond

    go : (p : Placed) → Conversion (converted w x y z) p → Read N O (ComeBeyond w u v t) p
    go p (far h) = beyond n o (record { X = x; Y = y; Z = z; X-read = ex; Y-read = ey; Z-read = ez; beyond = h })
    go p (near h) = at _ n o (λ k. h (same k))

lab-read : {N O : Type 0} {u v t : Units} {p : Placed} → Taken N O u v t place_lab p → Read N O ⊥ p
lab-read (five n) = not_finite n
lab-read (six n o) = out n o
lab-read (handed n o x y z ex ey ez) = at _ n o (λ h. h)

pub read : (w : White) (r : Reading) → Read (NotFinite r) (OutOfRange r) (Beyond w r) (place w r)
unfolding place_by
read w (Xyz x y z) = xyz-read w (taken (place_xyz w) (of_float _ x) (of_float _ y) (of_float _ z))
read w (Lab l a b) = lab-read (taken place_lab (of_float _ l) (of_float _ a) (of_float _ b))

-- with nothing that could fail to be finite
finite : {N O B : Type 0} {p : Placed} → ¬ N → Read N O B p → Read ⊥ O B p
finite f (not_finite n) = absurd (f n)
finite f (out n o) = out (λ h. h) o
finite f (beyond n o h) = beyond (λ h. h) o h
finite f (at c n o h) = at c (λ h. h) o h

pub read-written : (w : White) (r : Written) → Read ⊥ (WrittenOutOfRange r) (WrittenBeyond w r) (place_written w r)
unfolding place_by
read-written w (Xyz x y z) =
    finite (neither (λ h. h) (λ h. h) (λ h. h))
    (xyz-read w (taken (place_xyz w) (of_decimal _ x) (of_decimal _ y) (of_decimal _ z)))
read-written w (Lab l a b) =
    finite (neither (λ h. h) (λ h. h) (λ h. h))
    (lab-read (taken place_lab (of_decimal _ l) (of_decimal _ a) (of_decimal _ b)))
