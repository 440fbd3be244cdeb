-- What the C entries for the tests return and store, from the definitions of the crates below. Assumes nothing.
use Rattle.std.specs.Prelude.{cond, not, List, ℕ, eqb, ℤ, length, set, Ok, Err, Option, Some, None}
use Rattle.reading.specs.declared.decimal.Decimal.{Decimal}
use Rattle.reading.specs.declared.quantity.Quantity.{Quantity}
use Rattle.reading.specs.declared.quantity.Quantity.TheVariants.{Tristimulus, Lightness, Opponent}
use Rattle.reading.specs.Reading.{Units}
use Rattle.reading.specs.declared.quantity.ReadError.TheVariants.{NotFinite, OutOfRange}
use Rattle.colour.specs.Refusal.{number_of_refusal}
use Rattle.colour.specs.Placed.{place, Reading, Placed}
use Rattle.colour.specs.declared.conversion.GridColour.{GridColour}
use Rattle.colour.specs.declared.white.White.{White}

-- ---- what a call is given

abbrev pub quantity_of : ℕ → Quantity
quantity_of n = cond (eqb n 1) Tristimulus (cond (eqb n 2) Lightness Opponent)

-- below zero unless `below` is 0
abbrev pub decimal_of : (below millionths : ℕ) → Decimal
decimal_of below millionths = record { below = not (eqb below 0); millionths = millionths }

-- ---- what it answers

-- the number that a call returns, 0 or its refusal's number, and what `out` then holds
pub record Answer : Type 0 where
  pub number : ℕ
  pub holds : List ℤ

abbrev pub answer : ℕ → List ℤ → Answer
answer n out = record { number = n; holds = out }

-- the units in the first place, if there is one
abbrev pub units_answer : Units → List ℤ → Answer
units_answer (Ok z) out = answer 0 (set out 0 z)
units_answer (Err NotFinite) out = answer 5 out
units_answer (Err OutOfRange) out = answer 6 out

-- L*, a*, b* in a list of three
abbrev pub colour_stored : GridColour → List ℤ → List ℤ
colour_stored c out = cond (eqb (length out) 3) (set (set (set out 0 c.L.0) 1 c.a.0) 2 c.b.0) out

abbrev pub placed_answer : Placed → List ℤ → Answer
placed_answer (Ok c) out = answer 0 (colour_stored c out)
placed_answer (Err e) out = answer (number_of_refusal e) out

-- a reading against the white of a number: 2 where there is none
abbrev pub numbered_answer : Option White → Reading → List ℤ → Answer
numbered_answer (Some w) r out = placed_answer (place w r) out
numbered_answer None r out = answer 2 out
