-- WHAT IS STORED IS READ BACK, and every slice that holds a standard is the one that storing it leaves: encoding and
-- decoding undo each other. Assumes nothing.
use Rattle.std.specs.Prelude.{◌≡◌, Bool, true, false, cond, ℕ, zero, suc, ◌+◌, ◌*◌, ◌/◌, ◌%◌, ◌^◌, ◌≤◌, ◌<◌, eqb, ℤ, length, get_or, drop, Result, Ok, Err, Some, None}
use Rattle.std.proofs.Math.Path.{refl, sym, ap}
use Rattle.std.proofs.Common.{ap₂, ◌∙◌, arith, eqb-true, drop_of_length-le, drop-cons}
use mathlib.Core.List.{List, [], ◌∷◌, ◌++◌}
use Rattle.rounding.specs.Signed.{∣◌∣}
use Rattle.reading.specs.Grid.{grid_of}
use Rattle.colour.proofs.Theorems.Conversion.Laws.{grid_on}
use Rattle.colour.specs.declared.conversion.GridColour.{GridColour}
use Rattle.sheet.specs.Settings.{formula_numbered}
use Rattle.sheet.specs.declared.settings.Settings.{Settings}
use Rattle.standard.specs.Acceptance.{settings_of, acceptance, Valid, Acceptance}
use Rattle.standard.proofs.Theorems.Acceptance.Laws.{accepted_made, accepted-valid, valid-accepted}
use Rattle.standard.proofs.Theorems.Acceptance.Numbers.{settings_back, settings-only}
use Rattle.standard.specs.declared.accept.Standard.{Standard}
use Rattle.colour.specs.declared.refusal.Refusal.{Refusal}
use Rattle.station.specs.Record.{le2, le4, two, four, twos_of, of_twos, record_of, encode, settings_in, colour_in}
use Rattle.station.specs.Record.{placed, held_as, held_by, decode, zeros}
use Rattle.station.specs.Record.Laws.{decode-held, placed_on_grid, placed_is, placed_at}
use Rattle.station.specs.Record.Numbers.{two_bytes, four_bytes, le2_back, le4_back, of_twos_back, twos_of-lt}
use Rattle.station.specs.Record.Numbers.{twos_of_back, formula_byte, white_byte}

-- ---- from a standard to bytes and back

pub length-encode : (s : Standard) → length (encode s) ≡ 20
unfolding encode record_of
length-encode s = refl

twos_bytes :
    (z : ℤ) → ∣ z ∣ ≤ 2 ^ 28 → (n : ℕ) → n ≡ twos_of z →
    of_twos (n % 256 + n / 256 % 256 * 256 + n / 65536 % 256 * 65536 + n / 16777216 % 256 * 16777216) ≡ z
twos_bytes z h n e = ap of_twos (four_bytes n (rw e (twos_of-lt z h)) ∙ e) ∙ of_twos_back z h

module _ (s : Standard) (v : Valid s) where
  settings_encoded : settings_in (encode s) ≡ Ok s.settings
  unfolding encode record_of two
  settings_encoded =
      let by = s.settings in
      let l = two_bytes by.l (omega (arith, v.l.high)) in
      let c = two_bytes by.c (omega (arith, v.c.high)) in
      let t = two_bytes by.tolerance (omega (arith, v.tolerance.high)) in
      rw (formula_byte by.formula, white_byte by.white, l, c, t) (settings_back by)

  colour_encoded : colour_in (encode s) ≡ s.colour
  unfolding encode record_of four
  colour_encoded =
      λ i. record {
        L = grid_of (twos_bytes s.colour.L.0 (omega (arith, v.colour.L)) _ refl i);
        a = grid_of (twos_bytes s.colour.a.0 v.colour.a _ refl i);
        b = grid_of (twos_bytes s.colour.b.0 v.colour.b _ refl i);
      }

  -- a valid standard, stored, is read back as it was
  pub decode-encode : decode (encode s) ≡ Some s
  decode-encode =
      sym (decode-held (encode s) (length-encode s))
      ∙ ap₂ held_by settings_encoded (ap placed colour_encoded ∙ placed_is (grid_on s.colour v.colour))
      ∙ ap held_as (valid-accepted s v)

-- ---- what a slice that holds a standard says

-- its numbers are those of s, which is valid
pub record Stands (xs : List ℕ) (s : Standard) : Type 0 where
  pub full : length xs ≡ 20
  pub settings : settings_in xs ≡ Ok s.settings
  pub colour : colour_in xs ≡ s.colour
  pub valid : Valid s

accepted-stands :
    (xs : List ℕ) (by : Settings) {s : Standard} → length xs ≡ 20 → settings_in xs ≡ Ok by →
    acceptance by (placed (colour_in xs)) ≡ Ok s → Stands xs s
accepted-stands xs by {s} n e h =
    let from = accepted_made by (placed (colour_in xs)) h in
    record {
      full = n;
      settings = e ∙ ap Ok (sym from.settings);
      colour = placed_at (colour_in xs) from.placed;
      valid = accepted-valid by (placed (colour_in xs)) (placed_on_grid (colour_in xs)) s h;
    }

pub decode-stands : (xs : List ℕ) {s : Standard} → decode xs ≡ Some s → Stands xs s
unfolding decode
decode-stands xs {s} = go (eqb (length xs) 20) refl (settings_in xs) refl
  where
    of_held : (a : Acceptance) → held_as a ≡ Some s → a ≡ Ok s
    of_held (Err n) h = let no : ◌≡◌ {A = ℕ} 0 1 = cc in absurd (omega arith)
    of_held (Ok t) h = cc

    go :
        (p : Bool) → eqb (length xs) 20 ≡ p → (q : Result Settings Refusal) → settings_in xs ≡ q →
        cond p (held_by q (placed (colour_in xs))) None ≡ Some s → Stands xs s
    go false hp q hq h = let no : ◌≡◌ {A = ℕ} 0 1 = cc in absurd (omega arith)
    go true hp (Err n) hq h = let no : ◌≡◌ {A = ℕ} 0 1 = cc in absurd (omega arith)
    go true hp (Ok by) hq h =
        accepted-stands xs by (eqb-true _ 20 hp) hq (of_held (acceptance by (placed (colour_in xs))) h)

-- ---- from bytes to a standard and back

-- the n elements from index at
abbrev listed : (n at : ℕ) → List ℕ → List ℕ
listed zero at xs = []
listed (suc n) at xs = get_or xs at 0 ∷ listed n (suc at) xs

drop-listed : (n at : ℕ) (xs : List ℕ) → at + n ≡ length xs → drop at xs ≡ listed n at xs
drop-listed zero at xs e = drop_of_length-le xs {i = at} (omega arith)
drop-listed (suc n) at xs e =
    drop-cons xs at 0 (omega arith) ∙ ap (◌∷◌ (get_or xs at 0)) (drop-listed n (suc at) xs (omega arith))

module _ (xs : List ℕ) (bytes : (k : ℕ) → get_or xs k 0 < 256) where
  two_back : (at : ℕ) → le2 (two xs at) ≡ get_or xs at 0 ∷ get_or xs (at + 1) 0 ∷ []
  unfolding two
  two_back at = le2_back _ _ (bytes at) (bytes (at + 1))

  four_back :
      (at : ℕ) → le4 (twos_of (of_twos (four xs at))) ≡ get_or xs at 0 ∷ get_or xs (at + 1) 0 ∷ get_or xs (at + 2) 0
      ∷ get_or xs (at + 3) 0 ∷ []
  unfolding four
  four_back at =
      ap le4 (twos_of_back _ (omega (arith, bytes at, bytes (at + 1), bytes (at + 2), bytes (at + 3))))
      ∙ le4_back _ _ _ _ (bytes at) (bytes (at + 1)) (bytes (at + 2)) (bytes (at + 3))

  -- a slice of bytes that holds a standard holds just what storing it leaves
  pub decode-only : {s : Standard} → decode xs ≡ Some s → xs ≡ encode s
  unfolding encode record_of
  decode-only {s} e =
      let h = decode-stands xs e in
      let by = settings-only _ _ _ _ _ h.settings in
      let at : (f : GridColour → ℤ) → le4 (twos_of (f s.colour)) ≡ le4 (twos_of (f (colour_in xs))) =
      λ f. ap (λ (c : GridColour). le4 (twos_of (f c))) (sym h.colour) in
      drop-listed 20 0 xs (omega (arith, h.full))
      ∙ sym (ap₂ ◌∷◌ (formula_byte s.settings.formula ∙ sym by.formula)
      (ap₂ ◌∷◌ (white_byte s.settings.white ∙ sym by.white)
      (ap₂ ◌++◌ (ap le2 (sym by.l) ∙ two_back 2)
      (ap₂ ◌++◌ (ap le2 (sym by.c) ∙ two_back 4) (ap₂ ◌++◌ (ap le2 (sym by.tolerance) ∙ two_back 6)
      (ap₂ ◌++◌ (at (λ c. c.L.0) ∙ four_back 8)
      (ap₂ ◌++◌ (at (λ c. c.a.0) ∙ four_back 12) (at (λ c. c.b.0) ∙ four_back 16))))))))

-- ---- a slice that the host has just cleared

pub zeros-empty : decode zeros ≡ None
unfolding zeros decode settings_of formula_numbered
zeros-empty = refl

pub length-zeros : length zeros ≡ 20
unfolding zeros
length-zeros = refl
