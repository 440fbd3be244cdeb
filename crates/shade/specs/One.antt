-- Any two outcomes that a C entry's contract admits are equal: the number that it answers, or the struct that it hands
-- back, and the content of the slice that it may write. Assumes nothing.
use Rattle.std.specs.Prelude.{List, ℕ, Float}
use Rattle.colour.specs.declared.placed.Values.TheVariants.{Xyz, Lab}
use Rattle.colour.specs.declared.placed.Space.TheVariants as Space
use Rattle.delivery.specs.Sorted.{Sorts}
use Rattle.delivery.proofs.Theorems.Sorted.Laws.{AdmitsOne as SortAdmitsOne, sorts_one}
use Rattle.calls.specs.Calls.{AdmitsOne, gives_one, load_call, judge_call, ticket_call}

module _ (station : List ℕ) (formula white l c tolerance : ℕ) where
  -- of `shade_load_xyz`
  pub load_xyz_one : (x y z : Float) → AdmitsOne (load_call station formula white l c tolerance (Xyz x y z))
  load_xyz_one x y z = gives_one _

  -- of `shade_load_lab`
  pub load_lab_one :
      (lightness a b : Float) → AdmitsOne (load_call station formula white l c tolerance (Lab lightness a b))
  load_lab_one lightness a b = gives_one _

-- of `shade_judge_xyz`
pub judge_xyz_one :
    (station : List ℕ) (x y z : Float) (room : List ℕ) (column : ℕ) →
    AdmitsOne (judge_call station (Xyz x y z) room column)
judge_xyz_one station x y z room column = gives_one _

-- of `shade_judge_lab`
pub judge_lab_one :
    (station : List ℕ) (lightness a b : Float) (room : List ℕ) (column : ℕ) →
    AdmitsOne (judge_call station (Lab lightness a b) room column)
judge_lab_one station lightness a b room column = gives_one _

-- of `shade_ticket`
pub ticket_one : (text room : List ℕ) (column : ℕ) → AdmitsOne (ticket_call text room column)
ticket_one text room column = gives_one _

module _ (white l c : ℕ) where
  -- of `shade_sort_xyz`
  pub sort_xyz_one : (x y z de : List Float) → SortAdmitsOne (Sorts Space.Xyz white l c x y z de)
  sort_xyz_one x y z de = sorts_one Space.Xyz white l c x y z de

  -- of `shade_sort_lab`
  pub sort_lab_one : (lightness a b de : List Float) → SortAdmitsOne (Sorts Space.Lab white l c lightness a b de)
  sort_lab_one lightness a b de = sorts_one Space.Lab white l c lightness a b de
