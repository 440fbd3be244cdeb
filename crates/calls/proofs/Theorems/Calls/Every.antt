-- What a load leaves is read back as its standard, of its own numbers and reference; and every slice that holds a
-- standard is one that a load leaves: docs/SCOPE.md 1.3, 1.4. Assumes nothing.
use Rattle.std.specs.Prelude.{◌≡◌, refl, Bool, true, false, List, ℕ, ◌<◌, eqb, length, get_or, Ok, Err, Some}
use Rattle.std.proofs.Common.{sym, ap, ◌∙◌, arith, eq-eqb, eqb-true}
use Rattle.reading.specs.Grid.{value_of}
use Rattle.reading.proofs.Theorems.Reading.Laws.{lightness_back_and_read, opponent_back_and_read}
use Rattle.colour.specs.Conversion.Ranges.{OnGrid}
use Rattle.colour.specs.Placed.{take, place_by, place, Reading}
use Rattle.colour.specs.White.{number_of_white}
use Rattle.colour.specs.declared.conversion.GridColour.{GridColour}
use Rattle.colour.specs.declared.placed.Values.TheVariants.{Lab}
use Rattle.colour.specs.declared.white.White.{White}
use Rattle.sheet.specs.Settings.{number_of_formula}
use Rattle.sheet.specs.declared.settings.Settings.{Settings}
use Rattle.standard.specs.Acceptance.{settings_of, Valid, Acceptance}
use Rattle.standard.proofs.Theorems.Acceptance.Laws.{valid-accepted}
use Rattle.standard.proofs.Theorems.Acceptance.Numbers.{settings_back}
use Rattle.standard.specs.declared.accept.Standard.{Standard}
use Rattle.station.specs.Record.{encode, decode}
use Rattle.station.specs.Record.Laws.{stores}
use Rattle.station.specs.Record.Back.{decode-encode, decode-stands, decode-only}
use Rattle.calls.specs.Outcome.{loaded}
use Rattle.calls.proofs.Theorems.Outcome.Load.{load_some, loaded-valid, LoadOf, accepted-load}
use Rattle.calls.specs.Calls.{Answer, Gives, load_call}
use Rattle.calls.proofs.Theorems.Calls.Laws.{load-call-refused, load-call-stored, load-call-other}

-- ---- what a load comes to

module _ (xs : List ℕ) (formula white l c tolerance : ℕ) (r : Reading) where
  abbrev comes_to : Acceptance
  comes_to = loaded (settings_of formula white l c tolerance) r

  abbrev answers : Answer
  answers = load_call xs formula white l c tolerance r

  pub load_gives : length xs ≡ 20 → {s : Standard} → comes_to ≡ Ok s → Gives answers 0 (encode s)
  load_gives n {s} e =
      load-call-stored xs formula white l c tolerance r refl e (sym (eq-eqb (length xs) 20 n)) (stores s xs n) refl

  -- WHAT A LOAD STORES IS READ BACK: where it answers 0 it was accepted, and its slice holds its standard
  pub load_read_back :
      answers.number ≡ 0 → (s : Standard) × (comes_to ≡ Ok s) × (decode answers.bytes ≡ Some s)
  load_read_back zero = go comes_to refl (eqb (length xs) 20) refl
    where
      go :
          (a : Acceptance) → comes_to ≡ a → (b : Bool) → eqb (length xs) 20 ≡ b →
          (s : Standard) × (comes_to ≡ Ok s) × (decode answers.bytes ≡ Some s)
      go (Err n) e b f =
          let is = (load-call-refused xs formula white l c tolerance r refl e).number in
          absurd (load_some formula white l c tolerance r e (is ∙ zero))
      go (Ok s) e true f =
          let stored = (load_gives (eqb-true _ 20 f) e).bytes in
          (s, e, ap decode (sym stored) ∙ decode-encode s (loaded-valid _ r s e))
      go (Ok s) e false f =
          let is = (load-call-other xs formula white l c tolerance r refl e (sym f) refl refl).number in
          absurd (omega (arith, is, zero))

  -- AND THAT STANDARD IS OF ITS NUMBERS AND ITS REFERENCE PLACED
  pub load-holds-reference :
      answers.number ≡ 0 →
      (s : Standard) × (decode answers.bytes ≡ Some s) × LoadOf formula white l c tolerance r s
  load-holds-reference zero =
      let (s, accepted, held) = load_read_back zero in
      (s, held, accepted-load formula white l c tolerance r accepted)

-- ---- every valid standard is one that some load brings: the load of its own numbers, with the colour as L*, a*, b*

abbrev pub as_lab : GridColour → Reading
as_lab c = Lab (value_of c.L.0) (value_of c.a.0) (value_of c.b.0)

pub place_back : (w : White) (c : GridColour) → OnGrid c → place w (as_lab c) ≡ Ok c
unfolding place_by take
place_back w c h =
    let L = lightness_back_and_read c.L.0 h.not_below h.L in
    rw (L, opponent_back_and_read c.a.0 h.a, opponent_back_and_read c.b.0 h.b)

abbrev pub load_for : Standard → List ℕ → Answer
load_for s xs =
    let by : Settings = s.settings in
    load_call xs (number_of_formula by.formula) (number_of_white by.white) by.l by.c by.tolerance
    (as_lab s.colour)

pub valid-loaded :
    (s : Standard) → Valid s →
    let by : Settings = s.settings in
    loaded (settings_of (number_of_formula by.formula) (number_of_white by.white) by.l by.c by.tolerance)
    (as_lab s.colour) ≡ Ok s
unfolding loaded
valid-loaded s v =
    rw (settings_back s.settings, place_back s.settings.white s.colour v.colour) (valid-accepted s v)

-- EVERY SLICE THAT HOLDS A STANDARD IS ONE THAT A LOAD LEAVES: the load of its numbers answers 0, and leaves just that
-- slice, whatever 20 bytes it is given
pub held_is_loaded :
    (xs : List ℕ) → ((k : ℕ) → get_or xs k 0 < 256) → {s : Standard} → decode xs ≡ Some s →
    (ys : List ℕ) → length ys ≡ 20 → Gives (load_for s ys) 0 xs
held_is_loaded xs bytes {s} e ys n =
    let gives = load_gives ys _ _ _ _ _ _ n (valid-loaded s (decode-stands xs e).valid) in
    record { number = gives.number; bytes = decode-only xs bytes e ∙ gives.bytes }
