-- What the loop that writes goes by: i figures are written, and searched for the farthest. Assumes nothing.
use Rattle.std.specs.Prelude.{◌≡◌, List, [], ◌++◌, map, ℕ, ◌+◌, ◌^◌, ◌≤◌, ◌<◌, Float, pos, length, get_or, set}
use Rattle.std.specs.Prelude.{take, drop}
use Rattle.std.proofs.Common.{sym, ap, ◌∙◌, arith, length-take-le, drop_of_length-le}
use mathlib.Core.List.{append-nil}
use Rattle.std.proofs.lemmas.List.{length-map}
use Rattle.std.proofs.Math.ListN.{get_or-map}
use Rattle.rounding.specs.Every.{every_at}
use Rattle.reading.specs.Grid.{value_of}
use Rattle.colour.specs.declared.conversion.GridColour.{GridColour}
use Rattle.sheet.specs.Ranges.{InRange}
use Rattle.cones.specs.Cones.{no_colour}
use Rattle.delivery.specs.declared.farthest.Far.{Far}
use Rattle.delivery.specs.Delivery.{difference_from, differences_from}
use Rattle.delivery.proofs.Theorems.Delivery.Laws.{difference-lt}
use Rattle.delivery.specs.Farthest.{farther_of, nothing_yet}
use Rattle.delivery.proofs.Theorems.Farthest.Laws.{Searching, searching_none, searching_more, searching_all}
use Rattle.delivery.specs.Written.{Writing, writing_none, writing_more, writing_all}
use Rattle.delivery.specs.Room.{Room, Figures}

abbrev value : ℕ → Float
value d = value_of (pos d)

-- with i cones passed the slice is `now` and the farthest is f
pub record Setting (ds : List ℕ) (de : List Float) (i : ℕ) (now : List Float) (f : Far) : Type 0 where
  pub writing : Writing (map value ds) de i now
  pub searching : Searching ds i f

module _ (ds : List ℕ) (de : List Float) (enough : length ds ≤ length de) where
  values-enough : length (map value ds) ≤ length de
  values-enough = rw (length-map ds value) enough

  pub setting_none : Setting ds de 0 de nothing_yet
  setting_none =
      record { writing = writing_none (map value ds) de values-enough; searching = searching_none ds }

  module _ {i : ℕ} {now : List Float} {f : Far} (k : Setting ds de i now f) where
    pub setting_all : length ds ≤ i → Figures ds de f now
    setting_all h =
        record {
          far = searching_all ds k.searching h;
          written = writing_all (map value ds) de values-enough k.writing (rw (length-map ds value) h);
        }

    pub setting_more :
        {d : ℕ} {v : Float} {g : Far} (z : ℕ) → i < length ds → d ≡ get_or ds i z → v ≡ value_of (pos d) →
        g ≡ farther_of f d i → Setting ds de (i + 1) (set now i v) g
    setting_more z l ed ev eg =
        record {
          writing =
              writing_more (map value ds) de values-enough k.writing _ (value z) (rw (length-map ds value) l)
              (ev ∙ ap value ed ∙ sym (get_or-map value ds i z));
          searching = searching_more ds z k.searching l ed eg;
        }

-- ---- the slice has an entry for each cone, and entry i is that of cone i

module _ {l c : ℕ} {M : GridColour} {n : ℕ} {cs : List GridColour} {de : List Float} (room : Room l c M n cs de) where
  pub room-count : length (differences_from l c M cs) ≡ n
  room-count = length-map cs (difference_from l c M) ∙ room.count

  pub room-enough : length (differences_from l c M cs) ≤ length de
  room-enough = rw room-count room.enough

  -- the part of the slice that is written has m entries
  module _ {m : ℕ} (em : m ≡ n) where
    part-length : length (take m de) ≡ n
    part-length = length-take-le m de (rw em room.enough) ∙ em

    pub part-enough : length (differences_from l c M cs) ≤ length (take m de)
    part-enough = omega (arith, room-count, part-length)

    pub part_few : {i : ℕ} → i < length (take m de) → i < n
    part_few h = omega (arith, part-length, h)

    pub part_count : {i : ℕ} → length (take m de) ≤ i → length (differences_from l c M cs) ≤ i
    part_count h = omega (arith, room-count, part-length, h)

    -- and the rest is kept
    pub figures_of_part :
        {f : Far} {now : List Float} → Figures (differences_from l c M cs) (take m de) f now →
        Figures (differences_from l c M cs) de f (now ++ drop m de)
    figures_of_part {now = now} g =
        let vs : List Float = map value (differences_from l c M cs) in
        let count : length vs ≡ m = length-map (differences_from l c M cs) value ∙ room-count ∙ sym em in
        let none : drop (length vs) (take m de) ≡ [] =
        drop_of_length-le (take m de) (omega (arith, count, part-length, em)) in
        let is : now ≡ vs = g.written ∙ ap (λ (r : List Float). vs ++ r) none ∙ append-nil vs in
        record {
          far = g.far;
          written = ap (λ (r : List Float). r ++ drop m de) is ∙ ap (λ (k : ℕ). vs ++ drop k de) (sym count);
        }

  module _ (i : ℕ) (few : i < n) where
    pub has-colour : i < length cs
    has-colour = rw room.count few

    module _ {T : GridColour} (at : T ≡ get_or cs i no_colour) where
      pub cone_in_range : InRange l c M T
      cone_in_range =
          record {
            lightness = room.lightness;
            chroma = room.chroma;
            reference = room.mean;
            specimen = rw at (every_at room.colours i no_colour has-colour);
          }

      pub difference-small : {d : ℕ} → d ≡ difference_from l c M T → d < 2 ^ 32
      difference-small e =
          rw e (difference-lt room.lightness room.chroma room.mean cone_in_range.specimen)

      pub difference_at :
          {d : ℕ} → d ≡ difference_from l c M T → d ≡ get_or (differences_from l c M cs) i (difference_from l c M no_colour)
      difference_at e = e ∙ ap (difference_from l c M) at ∙ sym (get_or-map (difference_from l c M) cs i no_colour)
