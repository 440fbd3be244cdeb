-- What callers use of placing: that every colour that is placed lies on the grid, and which numbers refuse a reading.
-- Assumes nothing.
use Rattle.std.specs.Prelude.{◌≡◌, Bool, true, false, ◌&&◌, ◌||◌, cond, ◌⊎◌, ℕ, ◌*◌, ◌^◌, ◌≤◌, leb, ℤ, Ok, Err}
use Rattle.std.proofs.Math.Path.{refl}
use Rattle.std.proofs.Common.{sym, ap, subst, ◌∙◌, inl, inr, zero-le, arith, le-ltb, leb-true, leb-false}
use Rattle.rounding.specs.Signed.{∣◌∣, minus}
use Rattle.reading.specs.Reading.{Within, range_of, limit, is_within, float_units, decimal_units, Units}
use Rattle.reading.proofs.Theorems.Reading.Laws.{float-units-within, decimal_units_in, decimal_units_out}
use Rattle.reading.proofs.Theorems.Reading.Laws.{decimal-units-within, abs_le_of_within, not_minus_of_within, opponent-le}
use Rattle.reading.specs.declared.decimal.Decimal.{Decimal}
use Rattle.reading.specs.declared.quantity.Quantity.{Quantity}
use Rattle.reading.specs.declared.quantity.Quantity.TheVariants.{Tristimulus, Lightness, Opponent}
use Rattle.colour.specs.declared.white.White.{White}
use Rattle.colour.specs.declared.conversion.GridColour.{GridColour}
use Rattle.colour.specs.Placed.{Reading, Written, Placed, take_lab, place_by, place, place_written}
use Rattle.colour.specs.declared.placed.Values.TheVariants.{Xyz, Lab}
use Rattle.colour.specs.White.{white_of}
use Rattle.colour.specs.Conversion.{bs6923, lightness, convert}
use Rattle.colour.proofs.Theorems.Conversion.Laws.{lightness-le}
use Rattle.colour.specs.Conversion.Ranges.{Against, OnGrid}
use Rattle.colour.specs.Placed.{is_not_finite, fault, take, accepted, converted, place_xyz, place_lab, take_xyz}
use Rattle.colour.specs.Placed.Ranges.{XyzWithin}
use Rattle.colour.proofs.Theorems.Placed.Ways.{Takes, handed, refused, takes, measured}
use Rattle.colour.specs.declared.refusal.Refusal.{Refusal}
use Rattle.colour.specs.declared.refusal.Refusal.TheVariants as Why

-- ---- every colour that is placed lies on the grid

accepted_on_grid :
    (c d : GridColour) → minus c.L.0 ≡ false → ∣ c.L.0 ∣ ≤ 120 * 2 ^ 20 → accepted c ≡ Ok d → OnGrid d
unfolding accepted
accepted_on_grid c d light small e =
    go (is_within (range_of Opponent) c.a.0) (is_within (range_of Opponent) c.b.0) refl refl e
  where
    go :
        (p q : Bool) → is_within (range_of Opponent) c.a.0 ≡ p → is_within (range_of Opponent) c.b.0 ≡ q →
        cond (p && q) (Ok c) (Err Why.Beyond256) ≡ Ok d → OnGrid d
    go false q a b h = let no : ◌≡◌ {A = ℕ} 0 1 = cc in absurd (omega arith)
    go true false a b h = let no : ◌≡◌ {A = ℕ} 0 1 = cc in absurd (omega arith)
    go true true a b h =
        let same : c ≡ d = cc in
        subst (λ (x : GridColour). OnGrid x) same
        (record { not_below = light; L = small; a = opponent-le c.a.0 a; b = opponent-le c.b.0 b })

-- whatever units give, a colour that was placed came of them
placed_of_units :
    (u v w : Units) (next : (x y z : ℤ) → Placed) (d : GridColour) →
    ((x y z : ℤ) → u ≡ Ok x → v ≡ Ok y → w ≡ Ok z → next x y z ≡ Ok d → OnGrid d) →
    take u v w next ≡ Ok d → OnGrid d
placed_of_units u v w next d each e = go (take u v w next) (takes u v w next) e
  where
    go : (p : Placed) → Takes u v w next p → p ≡ Ok d → OnGrid d
    go p (handed x y z eu ev ew) h = each x y z eu ev ew h
    go p refused h = let no : ◌≡◌ {A = ℕ} 0 1 = cc in absurd (omega arith)

-- floats and decimals alike, since both are read within their ranges
module _ {A : Type 0} (units : Quantity → A → Units)
    (within : (q : Quantity) (x : A) (z : ℤ) → units q x ≡ Ok z → Within (range_of q) z) where
  pub xyz-within :
      (x y z : A) {u v w : Units} → u ≡ units Tristimulus x → v ≡ units Tristimulus y → w ≡ units Tristimulus z →
      XyzWithin u v w
  xyz-within x y z eu ev ew =
      record {
        within = λ a b c ea eb ec.
            record {
              X = abs_le_of_within Tristimulus a (within Tristimulus x a (sym eu ∙ ea));
              Y = abs_le_of_within Tristimulus b (within Tristimulus y b (sym ev ∙ eb));
              Z = abs_le_of_within Tristimulus c (within Tristimulus z c (sym ew ∙ ec));
            };
      }

  take_xyz_on_grid : (w : White) (x y z : A) (d : GridColour) → take_xyz units w x y z ≡ Ok d → OnGrid d
  unfolding convert
  take_xyz_on_grid w x y z d =
      placed_of_units _ _ _ (place_xyz w) d
      (λ a b c ea eb ec e.
      let m = (xyz-within x y z refl refl refl).within a b c ea eb ec in
      let Y : Against ∣ b ∣ (white_of w).Y =
      (measured w {c = record { X = ∣ a ∣; Y = ∣ b ∣; Z = ∣ c ∣ }} m.X m.Y m.Z).Y in
      accepted_on_grid (converted w a b c) d (le-ltb (lightness 20 bs6923 ∣ b ∣ (white_of w).Y) 0 zero-le)
      (lightness-le ∣ b ∣ (white_of w).Y Y) e)

  take_lab_on_grid : (l a b : A) (d : GridColour) → take_lab units l a b ≡ Ok d → OnGrid d
  take_lab_on_grid l a b d =
      placed_of_units _ _ _ place_lab d
      (λ x y z ex ey ez e.
      let same : ◌≡◌ {A = GridColour} (record { L = record { 0 = x }; a = record { 0 = y }; b = record { 0 = z } }) d =
      cc in
      subst (λ (c : GridColour). OnGrid c) same
      (record {
        not_below = not_minus_of_within (range_of Lightness) x refl (within Lightness l x ex);
        L = abs_le_of_within Lightness x (within Lightness l x ex);
        a = abs_le_of_within Opponent y (within Opponent a y ey);
        b = abs_le_of_within Opponent z (within Opponent b z ez);
      }))

pub place_on_grid : (w : White) (r : Reading) (c : GridColour) → place w r ≡ Ok c → OnGrid c
unfolding place_by
place_on_grid w (Xyz x y z) c e = take_xyz_on_grid float_units float-units-within w x y z c e
place_on_grid w (Lab l a b) c e = take_lab_on_grid float_units float-units-within l a b c e

pub written_on_grid : (w : White) (r : Written) (c : GridColour) → place_written w r ≡ Ok c → OnGrid c
unfolding place_by
written_on_grid w (Xyz x y z) c e = take_xyz_on_grid decimal_units decimal-units-within w x y z c e
written_on_grid w (Lab l a b) c e = take_lab_on_grid decimal_units decimal-units-within l a b c e

-- ---- what refuses a reading

-- what has units is refused with 8, if at all
xyz-refused : (w : White) {e : Refusal} (x y z : ℤ) → place_xyz w x y z ≡ Err e → e ≡ Why.Beyond256
unfolding accepted
xyz-refused w {e} x y z = go (is_within (range_of Opponent) c.a.0 && is_within (range_of Opponent) c.b.0)
  where
    c : GridColour
    c = converted w x y z

    go : (b : Bool) → cond b (Ok c) (Err Why.Beyond256) ≡ Err e → e ≡ Why.Beyond256
    go true h = let no : ◌≡◌ {A = ℕ} 0 1 = cc in absurd (omega arith)
    go false h = cc

lab-refused : {e : Refusal} (l a b : ℤ) → place_lab l a b ≡ Err e → e ≡ Why.Beyond256
lab-refused l a b h = let no : ◌≡◌ {A = ℕ} 0 1 = cc in absurd (omega arith)

module _ (u v w : Units) (next : (x y z : ℤ) → Placed) {e : Refusal}
    (eight : (x y z : ℤ) → next x y z ≡ Err e → e ≡ Why.Beyond256) where
  refused_by : take u v w next ≡ Err e → (e ≡ fault u v w) ⊎ (e ≡ Why.Beyond256)
  refused_by h = go (take u v w next) (takes u v w next) h
    where
      go : (p : Placed) → Takes u v w next p → p ≡ Err e → (e ≡ fault u v w) ⊎ (e ≡ Why.Beyond256)
      go p (handed x y z eu ev ew) g = inr (eight x y z g)
      go p refused g = inl cc

  take-refused : take u v w next ≡ Err e → (e ≡ Why.NotANumber) ⊎ ((e ≡ Why.OutOfRange) ⊎ (e ≡ Why.Beyond256))
  take-refused h = go (is_not_finite u || is_not_finite v || is_not_finite w) (refused_by h)
    where
      go :
          (b : Bool) → (e ≡ cond b Why.NotANumber Why.OutOfRange) ⊎ (e ≡ Why.Beyond256) →
          (e ≡ Why.NotANumber) ⊎ ((e ≡ Why.OutOfRange) ⊎ (e ≡ Why.Beyond256))
      go true (inl g) = inl g
      go false (inl g) = inr (inl g)
      go true (inr g) = inr (inr g)
      go false (inr g) = inr (inr g)

  finite-refused :
      is_not_finite u ≡ false → is_not_finite v ≡ false → is_not_finite w ≡ false → take u v w next ≡ Err e →
      (e ≡ Why.OutOfRange) ⊎ (e ≡ Why.Beyond256)
  finite-refused hu hv hw h = rw (hu, hv, hw) at (refused_by h)

pub place-refused :
    (w : White) (r : Reading) {e : Refusal} → place w r ≡ Err e →
    (e ≡ Why.NotANumber) ⊎ ((e ≡ Why.OutOfRange) ⊎ (e ≡ Why.Beyond256))
unfolding place_by
place-refused w (Xyz x y z) h = take-refused _ _ _ (place_xyz w) (xyz-refused w) h
place-refused w (Lab l a b) h = take-refused _ _ _ place_lab lab-refused h

decimal-finite : (q : Quantity) (d : Decimal) → is_not_finite (decimal_units q d) ≡ false
decimal-finite q d = go (leb d.millionths (limit (range_of q) d.below * 1000000)) refl
  where
    go :
        (b : Bool) → leb d.millionths (limit (range_of q) d.below * 1000000) ≡ b →
        is_not_finite (decimal_units q d) ≡ false
    go true h = ap is_not_finite (decimal_units_in q d (leb-true _ _ h))
    go false h = ap is_not_finite (decimal_units_out q d (leb-false _ _ h))

-- A DECIMAL IS NEVER NOT-A-NUMBER OR INFINITE: no written reading is refused with 5
pub written-refused :
    (w : White) (r : Written) {e : Refusal} → place_written w r ≡ Err e → (e ≡ Why.OutOfRange) ⊎ (e ≡ Why.Beyond256)
unfolding place_by
written-refused w (Xyz x y z) h =
    finite-refused _ _ _ (place_xyz w) (xyz-refused w) (decimal-finite _ x) (decimal-finite _ y) (decimal-finite _ z) h
written-refused w (Lab l a b) h =
    finite-refused _ _ _ place_lab lab-refused (decimal-finite _ l) (decimal-finite _ a) (decimal-finite _ b) h
