-- Any two results that a call's contract admits are equal, with the bytes of the slice that it may write: `One.antt` says
-- so of their numbers, and one number is one result's. Assumes nothing.
use Rattle.std.specs.Prelude.{◌≡◌, List, ℕ, Result, ⊤}
use Rattle.colour.proofs.Theorems.Refusal.{one_refusal}
use Rattle.colour.specs.Placed.{Reading}
use Rattle.colour.specs.Refusal.{refusal_of}
use Rattle.colour.specs.declared.refusal.Refusal.{Refusal}
use Rattle.calls.specs.Calls.{Answer, Gives, gives_one, load_call, judge_call, ticket_call}

abbrev pub AdmitsOneResult : Answer → Type 0
AdmitsOneResult a =
    (r q : Result ⊤ Refusal) (xs ys : List ℕ) →
    Gives a (refusal_of r) xs → Gives a (refusal_of q) ys → (r ≡ q) × (xs ≡ ys)

pub gives_one_result : (a : Answer) → AdmitsOneResult a
gives_one_result a r q xs ys g h =
    let (number, bytes) = gives_one a (refusal_of r) (refusal_of q) xs ys g h in
    (one_refusal r q number, bytes)

-- of `load_call`
pub load_call_result_one :
    (station : List ℕ) (formula white l c tolerance : ℕ) (r : Reading) →
    AdmitsOneResult (load_call station formula white l c tolerance r)
load_call_result_one station formula white l c tolerance r = gives_one_result _

-- of `judge_call`
pub judge_call_result_one :
    (station : List ℕ) (r : Reading) (room : List ℕ) (column : ℕ) →
    AdmitsOneResult (judge_call station r room column)
judge_call_result_one station r room column = gives_one_result _

-- of `ticket_call`
pub ticket_call_result_one : (text room : List ℕ) (column : ℕ) → AdmitsOneResult (ticket_call text room column)
ticket_call_result_one text room column = gives_one_result _
