-- Each way out of placing: three readings together, X, Y, Z against a white, a converted colour. Assumes nothing.
use Rattle.std.specs.Prelude.{◌≡◌, refl, Bool, true, false, ◌||◌, cond, ℕ, ◌≤◌, ℤ, Ok, Err}
use Rattle.std.proofs.Math.Path.{ap}
use Rattle.std.proofs.Common.{arith}
use Rattle.reading.specs.Reading.{range_of, is_within, Units}
use Rattle.reading.specs.declared.quantity.Quantity.{Quantity}
use Rattle.reading.specs.declared.quantity.Quantity.TheVariants.{Tristimulus, Lightness, Opponent}
use Rattle.reading.specs.declared.quantity.ReadError.TheVariants.{NotFinite, OutOfRange}
use Rattle.colour.specs.declared.white.White.{White}
use Rattle.colour.specs.declared.white.White.TheVariants.{D65Ten, D65Two, CTen, CTwo}
use Rattle.colour.specs.declared.white.TristimulusValues.{TristimulusValues}
use Rattle.colour.specs.declared.conversion.GridColour.{GridColour}
use Rattle.colour.specs.Placed.{Placed, is_not_finite, fault, take, accepted, place_xyz, place_lab, take_xyz, take_lab}
use Rattle.colour.specs.White.{white_of}
use Rattle.colour.specs.Conversion.Ranges.{Against, Measured}
use Rattle.colour.specs.declared.refusal.Refusal.{Refusal}
use Rattle.colour.specs.declared.refusal.Refusal.TheVariants as Why

-- ---- three readings together: all have units, which are handed on, or they are refused

pub data Takes (u v w : Units) (next : (x y z : ℤ) → Placed) : Placed → Type 0 where
  handed : (x y z : ℤ) → u ≡ Ok x → v ≡ Ok y → w ≡ Ok z → Takes u v w next (next x y z)
  refused : Takes u v w next (Err (fault u v w))

pub takes : (u v w : Units) (next : (x y z : ℤ) → Placed) → Takes u v w next (take u v w next)
unfolding take
takes (Ok x) (Ok y) (Ok z) next = handed x y z refl refl refl
takes (Ok x) (Ok y) (Err e) next = refused
takes (Ok x) (Err e) w next = refused
takes (Err e) v w next = refused

-- the refusal of them: 5 at the first that is not finite, 6 if none is
module _ (u v w : Units) where
  abbrev any_not_finite : Bool
  any_not_finite = is_not_finite u || is_not_finite v || is_not_finite w

  fault_by : (b : Bool) → any_not_finite ≡ b → fault u v w ≡ cond b Why.NotANumber Why.OutOfRange
  fault_by b h = ap (λ (t : Bool). cond t Why.NotANumber Why.OutOfRange) h

  pub fault_first : is_not_finite u ≡ true → fault u v w ≡ Why.NotANumber
  fault_first hu = fault_by true (rw hu)

  pub fault-second : is_not_finite u ≡ false → is_not_finite v ≡ true → fault u v w ≡ Why.NotANumber
  fault-second hu hv = fault_by true (rw (hu, hv))

  pub fault-third :
      is_not_finite u ≡ false → is_not_finite v ≡ false → is_not_finite w ≡ true → fault u v w ≡ Why.NotANumber
  fault-third hu hv hw = fault_by true (rw (hu, hv, hw))

  pub fault_none :
      is_not_finite u ≡ false → is_not_finite v ≡ false → is_not_finite w ≡ false → fault u v w ≡ Why.OutOfRange
  fault_none hu hv hw = fault_by false (rw (hu, hv, hw))

-- a reading that has no units
pub data NoUnits : Units → Type 0 where
  not_finite : NoUnits (Err NotFinite)
  out_of_range : NoUnits (Err OutOfRange)

-- each way out, as the readings are looked at in turn
module _ (next : (x y z : ℤ) → Placed) where
  pub take_first_refused : {e : Refusal} (u v w : Units) → NoUnits u → e ≡ fault u v w → Err e ≡ take u v w next
  unfolding take
  take_first_refused u v w not_finite h = ap Err h
  take_first_refused u v w out_of_range h = ap Err h

  pub take-second-refused :
      {e : Refusal} {x : ℤ} (u v w : Units) → u ≡ Ok x → NoUnits v → e ≡ fault (Ok x) v w → Err e ≡ take u v w next
  unfolding take
  take-second-refused u v w eu not_finite h = rw eu (ap Err h)
  take-second-refused u v w eu out_of_range h = rw eu (ap Err h)

  pub take-third-refused :
      {e : Refusal} {x y : ℤ} (u v w : Units) → u ≡ Ok x → v ≡ Ok y → NoUnits w → e ≡ fault (Ok x) (Ok y) w →
      Err e ≡ take u v w next
  unfolding take
  take-third-refused u v w eu ev not_finite h = rw (eu, ev) (ap Err h)
  take-third-refused u v w eu ev out_of_range h = rw (eu, ev) (ap Err h)

  pub take-handed :
      {x y z : ℤ} {p : Placed} (u v w : Units) → u ≡ Ok x → v ≡ Ok y → w ≡ Ok z → p ≡ next x y z → p ≡ take u v w next
  unfolding take
  take-handed u v w eu ev ew e = rw (eu, ev, ew) e

-- ---- X, Y, Z up to 150 against each white

against : (x : ℕ) {w : ℕ} → x ≤ 150000000 → 94000000 ≤ w → w ≤ 119000000 → Against x w
against x h l m = record { value = h; low = l; high = m }

pub measured :
    (w : White) {c : TristimulusValues} → c.X ≤ 150000000 → c.Y ≤ 150000000 → c.Z ≤ 150000000 →
    Measured c (white_of w)
unfolding white_of
measured D65Ten x y z =
    record {
      X = against _ x (omega arith) (omega arith);
      Y = against _ y (omega arith) (omega arith);
      Z = against _ z (omega arith) (omega arith);
    }
measured D65Two x y z =
    record {
      X = against _ x (omega arith) (omega arith);
      Y = against _ y (omega arith) (omega arith);
      Z = against _ z (omega arith) (omega arith);
    }
measured CTen x y z =
    record {
      X = against _ x (omega arith) (omega arith);
      Y = against _ y (omega arith) (omega arith);
      Z = against _ z (omega arith) (omega arith);
    }
measured CTwo x y z =
    record {
      X = against _ x (omega arith) (omega arith);
      Y = against _ y (omega arith) (omega arith);
      Z = against _ z (omega arith) (omega arith);
    }

-- ---- a converted colour: its three ways out

module _ (c : GridColour) where
  pub accepted_beyond_a : is_within (range_of Opponent) c.a.0 ≡ false → accepted c ≡ Err Why.Beyond256
  unfolding accepted
  accepted_beyond_a h = rw h

  pub accepted_beyond_b :
      is_within (range_of Opponent) c.a.0 ≡ true → is_within (range_of Opponent) c.b.0 ≡ false →
      accepted c ≡ Err Why.Beyond256
  unfolding accepted
  accepted_beyond_b h g = rw (h, g)

  pub accepted_at :
      is_within (range_of Opponent) c.a.0 ≡ true → is_within (range_of Opponent) c.b.0 ≡ true → accepted c ≡ Ok c
  unfolding accepted
  accepted_at h g = rw (h, g)

-- ---- three numbers of a kind, floats or decimals, from their units

module _ {A : Type 0} (units : Quantity → A → Units) (x y z : A) {u v w : Units} {p : Placed} where
  pub take_xyz_is :
      (white : White) → u ≡ units Tristimulus x → v ≡ units Tristimulus y → w ≡ units Tristimulus z →
      p ≡ take u v w (place_xyz white) → p ≡ take_xyz units white x y z
  take_xyz_is white eu ev ew e = cc

  pub take_lab_is :
      u ≡ units Lightness x → v ≡ units Opponent y → w ≡ units Opponent z →
      p ≡ take u v w place_lab → p ≡ take_lab units x y z
  take_lab_is eu ev ew e = cc
