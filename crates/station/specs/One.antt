-- Any two outcomes that a contract of `station` admits on one input are equal: the result, and the bytes of the lent
-- slice. A contract that is one equation is not listed. Assumes nothing.
use Rattle.std.specs.Prelude.{◌≡◌, Bool, List, ℕ, eqb, length}
use Rattle.std.proofs.Common.{sym, ◌∙◌}
use Rattle.standard.specs.declared.accept.Standard.{Standard}
use Rattle.station.specs.Record.{store_in}

-- of `store`
pub store_one :
    (s : Standard) (slice : List ℕ) (r q : Bool) (xs ys : List ℕ) →
    (r ≡ eqb (length slice) 20) × (xs ≡ store_in s slice) → (q ≡ eqb (length slice) 20) × (ys ≡ store_in s slice) →
    (r ≡ q) × (xs ≡ ys)
store_one s slice r q xs ys g h = (g.0 ∙ sym h.0, g.1 ∙ sym h.1)
