-- docs/SCOPE.md 8.1: the refusals, and the number that a call answers. Assumes nothing.
use Rattle.std.specs.Prelude.{ℕ, cond, eqb, Result, Ok, Err, Option, Some, None}
use Rattle.colour.specs.declared.refusal.Refusal.{Refusal}
use Rattle.colour.specs.declared.refusal.Refusal.TheVariants.{Formula, White, Factor, Tolerance, NotANumber, OutOfRange}
use Rattle.colour.specs.declared.refusal.Refusal.TheVariants.{Ticket, Beyond256, NoStandard, Length, Count}

abbrev pub number_of_refusal : Refusal → ℕ
number_of_refusal Formula = 1
number_of_refusal White = 2
number_of_refusal Factor = 3
number_of_refusal Tolerance = 4
number_of_refusal NotANumber = 5
number_of_refusal OutOfRange = 6
number_of_refusal Ticket = 7
number_of_refusal Beyond256 = 8
number_of_refusal NoStandard = 9
number_of_refusal Length = 10
number_of_refusal Count = 11

-- a refusal's number, 0 for none
abbrev pub refusal_of : {A : Type 0} → Result A Refusal → ℕ
refusal_of (Ok x) = 0
refusal_of (Err e) = number_of_refusal e

-- the refusal of a number, if it is one's
unfoldable pub refusal_numbered : ℕ → Option Refusal
refusal_numbered n =
    cond (eqb n 1) (Some Formula) (cond (eqb n 2) (Some White) (cond (eqb n 3) (Some Factor) (cond (eqb n 4) (Some Tolerance)
    (cond (eqb n 5) (Some NotANumber) (cond (eqb n 6) (Some OutOfRange) (cond (eqb n 7) (Some Ticket)
    (cond (eqb n 8) (Some Beyond256) (cond (eqb n 9) (Some NoStandard) (cond (eqb n 10) (Some Length)
    (cond (eqb n 11) (Some Count) None))))))))))

-- refused, if there is a refusal
abbrev pub refused_by : {A : Type 0} → Option Refusal → Result A Refusal → Result A Refusal
refused_by (Some e) r = Err e
refused_by None r = r
