-- docs/SCOPE.md 8.1, the rules of one reading, each exactly then: 5 where one of its three numbers is not-a-number or
-- infinite, 6 where one lies outside its range on the exact value (3.4), 8 where a* or b* lies beyond 256 after
-- conversion. `Exactly/Laws.antt` has the proof. Assumes nothing.
use Rattle.std.specs.Prelude.{◌≡◌, ◌↔◌, ◌⊎◌, ◌*◌, ◌^◌, ◌<◌, ℤ, Float, Ok, Err}
use Rattle.std.specs.Float.{nan, inf, fin}
use Rattle.std.specs.Float.Ieee.{up, down}
use Rattle.rounding.specs.Signed.{∣◌∣}
use Rattle.reading.specs.Reading.{range_of, limit, float_units, decimal_units, Units}
use Rattle.reading.specs.declared.decimal.Decimal.{Decimal}
use Rattle.reading.specs.declared.quantity.Quantity.{Quantity}
use Rattle.reading.specs.declared.quantity.Quantity.TheVariants.{Tristimulus, Lightness, Opponent}
use Rattle.colour.specs.declared.white.White.{White}
use Rattle.colour.specs.declared.conversion.GridColour.{GridColour}
use Rattle.colour.specs.Placed.{Reading, Written, Placed, converted, place, place_written}
use Rattle.colour.specs.declared.placed.Values.TheVariants.{Xyz, Lab}
use Rattle.colour.specs.declared.refusal.Refusal.TheVariants as Why

-- ---- THE RULES

-- 5: one of the three floats is not-a-number or infinite; a decimal is neither
abbrev pub IsNotFinite : Float → Type 0
IsNotFinite nan = Unit
IsNotFinite (inf below) = Unit
IsNotFinite (fin below m e) = ⊥

abbrev pub NotFinite : Reading → Type 0
NotFinite (Xyz x y z) = IsNotFinite x ⊎ (IsNotFinite y ⊎ IsNotFinite z)
NotFinite (Lab l a b) = IsNotFinite l ⊎ (IsNotFinite a ⊎ IsNotFinite b)

-- 6: one of the three lies outside its range (`range_of`: X, Y, Z from 0 to 150, L* from 0 to 120, a*, b* from -256 to
-- 256). A float `fin below m e` is m * up e / down e with its sign, and a decimal its millionths over a million
abbrev pub FloatOutside : Quantity → Float → Type 0
FloatOutside q nan = ⊥
FloatOutside q (inf below) = ⊥
FloatOutside q (fin below m e) = limit (range_of q) below * down e < m * up e

abbrev pub DecimalOutside : Quantity → Decimal → Type 0
DecimalOutside q d = limit (range_of q) d.below * 1000000 < d.millionths

abbrev pub OutOfRange : Reading → Type 0
OutOfRange (Xyz x y z) = FloatOutside Tristimulus x ⊎ (FloatOutside Tristimulus y ⊎ FloatOutside Tristimulus z)
OutOfRange (Lab l a b) = FloatOutside Lightness l ⊎ (FloatOutside Opponent a ⊎ FloatOutside Opponent b)

abbrev pub WrittenOutOfRange : Written → Type 0
WrittenOutOfRange (Xyz x y z) =
    DecimalOutside Tristimulus x ⊎ (DecimalOutside Tristimulus y ⊎ DecimalOutside Tristimulus z)
WrittenOutOfRange (Lab l a b) = DecimalOutside Lightness l ⊎ (DecimalOutside Opponent a ⊎ DecimalOutside Opponent b)

-- 8: X, Y, Z, read in millionths, come to an a* or a b* beyond 256; L*, a*, b* are not converted
abbrev pub Beyond256 : GridColour → Type 0
Beyond256 c = (256 * 2 ^ 20 < ∣ c.a.0 ∣) ⊎ (256 * 2 ^ 20 < ∣ c.b.0 ∣)

pub record ComeBeyond (w : White) (x y z : Units) : Type 0 where
  pub X : ℤ
  pub Y : ℤ
  pub Z : ℤ
  pub X-read : x ≡ Ok X
  pub Y-read : y ≡ Ok Y
  pub Z-read : z ≡ Ok Z
  pub beyond : Beyond256 (converted w X Y Z)

abbrev pub Beyond : White → Reading → Type 0
Beyond w (Xyz x y z) = ComeBeyond w (float_units Tristimulus x) (float_units Tristimulus y) (float_units Tristimulus z)
Beyond w (Lab l a b) = ⊥

abbrev pub WrittenBeyond : White → Written → Type 0
WrittenBeyond w (Xyz x y z) =
    ComeBeyond w (decimal_units Tristimulus x) (decimal_units Tristimulus y) (decimal_units Tristimulus z)
WrittenBeyond w (Lab l a b) = ⊥

-- ---- a whole reading: the first of its rules, or none

pub data Read (NotFinite OutOfRange Beyond : Type 0) : Placed → Type 0 where
  not_finite : NotFinite → Read NotFinite OutOfRange Beyond (Err Why.NotANumber)
  out : ¬ NotFinite → OutOfRange → Read NotFinite OutOfRange Beyond (Err Why.OutOfRange)
  beyond : ¬ NotFinite → ¬ OutOfRange → Beyond → Read NotFinite OutOfRange Beyond (Err Why.Beyond256)
  at : (c : GridColour) → ¬ NotFinite → ¬ OutOfRange → ¬ Beyond → Read NotFinite OutOfRange Beyond (Ok c)

-- ---- EACH REFUSAL OF A READING EXACTLY THEN, AND PLACED WHERE THERE IS NONE

pub record ReadingRows (w : White) (r : Reading) : Type 0 where
  pub is_5 : place w r ≡ Err Why.NotANumber ↔ NotFinite r
  pub is_6 : place w r ≡ Err Why.OutOfRange ↔ (OutOfRange r × ¬ (NotFinite r))
  pub is_8 : place w r ≡ Err Why.Beyond256 ↔ (Beyond w r × ¬ (NotFinite r) × ¬ (OutOfRange r))
  pub is_placed : ((c : GridColour) × (place w r ≡ Ok c)) ↔ (¬ (NotFinite r) × ¬ (OutOfRange r) × ¬ (Beyond w r))

pub record WrittenRows (w : White) (r : Written) : Type 0 where
  pub is_6 : place_written w r ≡ Err Why.OutOfRange ↔ WrittenOutOfRange r
  pub is_8 : place_written w r ≡ Err Why.Beyond256 ↔ (WrittenBeyond w r × ¬ (WrittenOutOfRange r))
  pub is_placed : ((c : GridColour) × (place_written w r ≡ Ok c)) ↔ (¬ (WrittenOutOfRange r) × ¬ (WrittenBeyond w r))
