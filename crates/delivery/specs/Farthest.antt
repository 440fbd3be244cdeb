-- The greatest of a list and its index, the lowest if several have it. `Farthest/Laws.antt` says so of it, and has what
-- a loop goes by. Assumes nothing.
use Rattle.std.specs.Prelude.{cond, List, [], ◌∷◌, ℕ, suc, ltb}
use Rattle.delivery.specs.declared.farthest.Far.{Far}

-- of two that are as far, the one before
unfoldable pub farther_of : Far → (d i : ℕ) → Far
farther_of f d i = cond (ltb f.most d) (record { most = d; at = i }) f

-- after f, of a list whose first number has the index i
unfoldable pub farthest_from : Far → (i : ℕ) → List ℕ → Far
farthest_from f i [] = f
farthest_from f i (d ∷ ds) = farthest_from (farther_of f d i) (suc i) ds

abbrev pub nothing_yet : Far
nothing_yet = record { most = 0; at = 0 }

abbrev pub farthest : List ℕ → Far
farthest ds = farthest_from nothing_yet 0 ds
