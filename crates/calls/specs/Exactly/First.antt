-- Rules that are looked for in their order, each with its number, and the first of them that holds. Assumes nothing.
use Rattle.std.specs.Prelude.{◌≡◌, refl, Bool, true, false, ◌&&◌, not, List, [], ◌∷◌, ◌++◌, ◌↔◌, ℕ, eqb}
use Rattle.std.proofs.Common.{sym, subst, true≢false}
use Rattle.std.proofs.lemmas.Bool.{eqb-false}
use Rattle.standard.specs.Refusals.{first}
use Rattle.standard.proofs.Theorems.Refusals.Laws.{first_some}

-- none of them holds
abbrev pub NoneOf : List (Type 0) → Type 0
NoneOf [] = Unit
NoneOf (A ∷ As) = ¬ A × NoneOf As

pub record Rule : Type 1 where
  pub number : ℕ
  pub holds : Type 0

abbrev pub rule : ℕ → Type 0 → Rule
rule n A = record { number = n; holds = A }

-- n is the number of the first rule that holds, 0 where none does
pub data First : List Rule → ℕ → Type 1 where
  none : First [] 0
  here : {r : Rule} {rs : List Rule} → r.holds → First (r ∷ rs) r.number
  later : {r : Rule} {rs : List Rule} {n : ℕ} → ¬ r.holds → First rs n → First (r ∷ rs) n

-- ---- the rules that may be put for others, and more rules behind them

pub data Same : List Rule → List Rule → Type 1 where
  none : Same [] []
  more : {n : ℕ} {A B : Type 0} {rs ss : List Rule} → A ↔ B → Same rs ss → Same (rule n A ∷ rs) (rule n B ∷ ss)

pub first_same : {rs ss : List Rule} {n : ℕ} → Same rs ss → First rs n → First ss n
first_same Same.none First.none = First.none
first_same (more e s) (here h) = here (e.0 h)
first_same (more e s) (later h f) = later (λ b. h (e.1 b)) (first_same s f)

-- no rule has the number 0
abbrev pub all_numbered : List Rule → Bool
all_numbered [] = true
all_numbered (r ∷ rs) = not (eqb r.number 0) && all_numbered rs

pub numbered : (n : ℕ) (b : Bool) → not (eqb n 0) && b ≡ true → ¬ (n ≡ 0) × (b ≡ true)
numbered n b = go (eqb n 0) refl b
  where
    go : (p : Bool) → eqb n 0 ≡ p → (q : Bool) → not p && q ≡ true → ¬ (n ≡ 0) × (q ≡ true)
    go true e q h = absurd (true≢false (sym h))
    go false e q h = (eqb-false n 0 e, h)

pub first_then :
    {rs bs : List Rule} {n m : ℕ} → all_numbered rs ≡ true → First rs n → First bs m → First (rs ++ bs) (first n m)
first_then some First.none g = g
first_then {bs = bs} {m = m} some (here {r} {rs} h) g =
    subst (First ((r ∷ rs) ++ bs)) (sym (first_some m (numbered r.number (all_numbered rs) some).0)) (here h)
first_then some (later {r} {rs} h f) g = later h (first_then (numbered r.number (all_numbered rs) some).1 f g)
