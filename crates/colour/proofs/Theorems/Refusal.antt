-- Theorems on `specs/Refusal.antt`: each refusal has a number of its own, and none has 0; so two results without a value
-- that have one number are equal. Assumes nothing.
use Rattle.std.specs.Prelude.{◌≡◌, refl, Some, Result, Ok, Err, IsErrAnd, ⊤}
use Rattle.std.proofs.Common.{sym, ap, ◌∙◌, arith}
use Rattle.colour.specs.Refusal.{number_of_refusal, refusal_of, refusal_numbered}
use Rattle.colour.specs.declared.refusal.Refusal.{Refusal}
use Rattle.colour.specs.declared.refusal.Refusal.TheVariants.{Formula, White, Factor, Tolerance, NotANumber, OutOfRange}
use Rattle.colour.specs.declared.refusal.Refusal.TheVariants.{Ticket, Beyond256, NoStandard, Length, Count}

pub numbered-number : (e : Refusal) → refusal_numbered (number_of_refusal e) ≡ Some e
unfolding refusal_numbered
numbered-number Formula = refl
numbered-number White = refl
numbered-number Factor = refl
numbered-number Tolerance = refl
numbered-number NotANumber = refl
numbered-number OutOfRange = refl
numbered-number Ticket = refl
numbered-number Beyond256 = refl
numbered-number NoStandard = refl
numbered-number Length = refl
numbered-number Count = refl

pub number-only : (e f : Refusal) → number_of_refusal e ≡ number_of_refusal f → e ≡ f
number-only e f h = same (sym (numbered-number e) ∙ ap refusal_numbered h ∙ numbered-number f)
  where
    same : Some e ≡ Some f → e ≡ f
    same g = cc

pub number-some : (e : Refusal) → number_of_refusal e ≡ 0 → ⊥
number-some Formula h = omega (arith, h)
number-some White h = omega (arith, h)
number-some Factor h = omega (arith, h)
number-some Tolerance h = omega (arith, h)
number-some NotANumber h = omega (arith, h)
number-some OutOfRange h = omega (arith, h)
number-some Ticket h = omega (arith, h)
number-some Beyond256 h = omega (arith, h)
number-some NoStandard h = omega (arith, h)
number-some Length h = omega (arith, h)
number-some Count h = omega (arith, h)

-- two results that are `()` or a refusal, and have one number, are equal
pub one_refusal : (r q : Result ⊤ Refusal) → refusal_of r ≡ refusal_of q → r ≡ q
one_refusal (Ok x) (Ok y) h = refl
one_refusal (Ok x) (Err f) h = absurd (number-some f (sym h))
one_refusal (Err e) (Ok y) h = absurd (number-some e h)
one_refusal (Err e) (Err f) h = ap Err (number-only e f h)

-- what `?` hands on has the refusal's number
pub handed-number :
    {A : Type 0} (r : Result A Refusal) (e : Refusal) → IsErrAnd r (λ f. f ≡ e) → refusal_of r ≡ number_of_refusal e
handed-number (Ok x) e h = absurd h
handed-number (Err f) e h = ap number_of_refusal h
