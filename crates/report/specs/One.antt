-- Any two outcomes that a contract of `report` admits on one input are equal: the number, the result that has it, and
-- the bytes of the lent room. A contract that is one equation is not listed. Assumes nothing.
use Rattle.std.specs.Prelude.{◌≡◌, List, ℕ, Result, ⊤}
use Rattle.std.proofs.Common.{sym, ◌∙◌}
use Rattle.colour.proofs.Theorems.Refusal.{one_refusal}
use Rattle.colour.specs.Refusal.{refusal_of}
use Rattle.colour.specs.declared.refusal.Refusal.{Refusal}
use Rattle.standard.specs.declared.judge.Judgement.{Judgement}
use Rattle.report.specs.Write.{Reported}

-- of `write_report`, by its result's number
pub reported_one :
    (room : List ℕ) (column : ℕ) (j : Judgement) (n m : ℕ) (after others : List ℕ) →
    Reported room column j n after → Reported room column j m others → (n ≡ m) × (after ≡ others)
reported_one room column j n m after others g h =
    (g.number_is ∙ sym h.number_is, g.room_is ∙ sym h.room_is)

-- of `write_report`, by its result
pub reported_result_one :
    (room : List ℕ) (column : ℕ) (j : Judgement) (r q : Result ⊤ Refusal) (after others : List ℕ) →
    Reported room column j (refusal_of r) after → Reported room column j (refusal_of q) others →
    (r ≡ q) × (after ≡ others)
reported_result_one room column j r q after others g h =
    let (number, bytes) = reported_one room column j (refusal_of r) (refusal_of q) after others g h in
    (one_refusal r q number, bytes)
