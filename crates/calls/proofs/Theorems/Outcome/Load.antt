-- What callers use of what a load comes to: each way out; its number is that of its first fault; what it accepts is
-- valid, and is of its settings and its reference. Assumes nothing.
use Rattle.std.specs.Prelude.{◌≡◌, List, ◌∷◌, ◌++◌, ℕ, Result, Ok, Err, Option, Some, None}
use Rattle.std.proofs.Math.Path.{refl}
use Rattle.std.proofs.Common.{sym, ap, ◌∙◌, arith}
use Rattle.colour.specs.Refusal.{number_of_refusal, refusal_of}
use Rattle.colour.proofs.Theorems.Refusal.{number-some}
use Rattle.colour.specs.Placed.{place, Placed, Reading}
use Rattle.colour.proofs.Theorems.Placed.Laws.{place_on_grid}
use Rattle.colour.specs.White.{white_numbered}
use Rattle.colour.specs.declared.white.White.{White}
use Rattle.sheet.specs.Settings.{formula_numbered}
use Rattle.sheet.specs.declared.formula.Formula.{Formula}
use Rattle.sheet.specs.declared.settings.Settings.{Settings}
use Rattle.standard.specs.Refusals.{Fault, at_reference, at_room, number_at, first_of, refusal}
use Rattle.standard.specs.Acceptance.{number_faults, named, settings_of, range_faults, accept_faults, acceptance, ValidIn}
use Rattle.standard.proofs.Theorems.Acceptance.Laws.{accepted_made, accepted-valid, accept-number}
use Rattle.standard.proofs.Theorems.Acceptance.Numbers.{NumbersOf, settings-only}
use Rattle.standard.specs.declared.accept.Standard.{Standard}
use Rattle.colour.specs.declared.refusal.Refusal.{Refusal}
use Rattle.standard.specs.Acceptance.{Acceptance}
use Rattle.calls.specs.Outcome.{loaded, read_in, load_faults}

-- a reading that is refused has a number
pub placed_some : (w : White) (r : Reading) {e : Refusal} → place w r ≡ Err e → number_of_refusal e ≡ 0 → ⊥
placed_some w r {e} h z = number-some e z

module _ (l c tolerance : ℕ) (r : Reading) where
  -- its faults, by what its numbers name
  abbrev faults : Option Formula → Option White → List Fault
  faults f w = number_faults f w ++ (record { place = at_reference; number = read_in w r } ∷ range_faults l c tolerance)

  named-number :
      (f : Option Formula) (w : Option White) →
      refusal_of (loaded (named f w l c tolerance) r) ≡ refusal (faults f w)
  unfolding loaded refusal number_at first_of accept_faults range_faults
  named-number (Some f) (Some w) = accept-number _ _
  named-number (Some f) None = refl
  named-number None w = refl

  module _ (formula white : ℕ) where
    pub load-number :
        refusal_of (loaded (settings_of formula white l c tolerance) r)
        ≡ refusal (load_faults formula white l c tolerance r)
    unfolding settings_of load_faults
    load-number = named-number (formula_numbered formula) (white_numbered white)

    pub load-room : number_at (load_faults formula white l c tolerance r) at_room ≡ 0
    unfolding load_faults range_faults number_at
    load-room = refl

-- each way out
module _ (q : Result Settings Refusal) (r : Reading) {x : Result Settings Refusal} (e : x ≡ q) where
  pub load-unnamed : {n : Refusal} → x ≡ Err n → Err n ≡ loaded q r
  unfolding loaded
  load-unnamed h = rw (← e, h)

  pub load-tried :
      {s : Settings} {p : Placed} {a : Acceptance} → x ≡ Ok s → p ≡ place s.white r → a ≡ acceptance s p →
      a ≡ loaded q r
  unfolding loaded
  load-tried h hp ha = rw (← e, h, ha, hp)

-- a refused load has a number
pub load_some :
    (formula white l c tolerance : ℕ) (r : Reading) {e : Refusal} →
    loaded (settings_of formula white l c tolerance) r ≡ Err e → number_of_refusal e ≡ 0 → ⊥
load_some formula white l c tolerance r {e} h z = number-some e z

pub loaded-valid : (q : Result Settings Refusal) (r : Reading) → ValidIn (loaded q r)
unfolding loaded
loaded-valid (Err n) r s e = let no : ◌≡◌ {A = ℕ} 0 1 = cc in absurd (omega arith)
loaded-valid (Ok q) r s e = accepted-valid q (place q.white r) (place_on_grid q.white r) s e

-- ---- what is accepted

-- s is of these numbers, and its colour is that of this reference, read in its white
pub record LoadOf (formula white l c tolerance : ℕ) (r : Reading) (s : Standard) : Type 0 where
  pub settings : settings_of formula white l c tolerance ≡ Ok s.settings
  pub numbers : NumbersOf s.settings formula white l c tolerance
  pub colour : place s.settings.white r ≡ Ok s.colour

settings-placed :
    (q : Result Settings Refusal) (r : Reading) {s : Standard} → loaded q r ≡ Ok s →
    (q ≡ Ok s.settings) × (place s.settings.white r ≡ Ok s.colour)
unfolding loaded
settings-placed (Err n) r e = let no : ◌≡◌ {A = ℕ} 0 1 = cc in absurd (omega arith)
settings-placed (Ok q) r {s} e =
    let made = accepted_made q (place q.white r) e in
    (ap Ok (sym made.settings), ap (λ (t : Settings). place t.white r) made.settings ∙ made.placed)

-- AN ACCEPTED LOAD'S COLOUR IS ITS REFERENCE PLACED, and its settings are those of its numbers
pub accepted-load :
    (formula white l c tolerance : ℕ) (r : Reading) {s : Standard} →
    loaded (settings_of formula white l c tolerance) r ≡ Ok s → LoadOf formula white l c tolerance r s
accepted-load formula white l c tolerance r e =
    let (settings, colour) = settings-placed (settings_of formula white l c tolerance) r e in
    record { settings = settings; numbers = settings-only formula white l c tolerance settings; colour = colour }
