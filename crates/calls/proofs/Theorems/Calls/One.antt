-- Any two outcomes that a call's contract admits are equal: its number, and the bytes of the slice that it may write.
-- The calls that are not listed, `ticket_outcome`, `line_of` and those that hand figures back, are under one equation.
-- Assumes nothing.
use Rattle.std.specs.Prelude.{List, ℕ}
use Rattle.colour.specs.Placed.{Reading}
use Rattle.calls.specs.Calls.{AdmitsOne, gives_one, load_call, judge_call, ticket_call}

-- of `load_call`
pub load_call_one :
    (station : List ℕ) (formula white l c tolerance : ℕ) (r : Reading) →
    AdmitsOne (load_call station formula white l c tolerance r)
load_call_one station formula white l c tolerance r = gives_one _

-- of `judge_call`
pub judge_call_one :
    (station : List ℕ) (r : Reading) (room : List ℕ) (column : ℕ) → AdmitsOne (judge_call station r room column)
judge_call_one station r room column = gives_one _

-- of `ticket_call`
pub ticket_call_one : (text room : List ℕ) (column : ℕ) → AdmitsOne (ticket_call text room column)
ticket_call_one text room column = gives_one _
