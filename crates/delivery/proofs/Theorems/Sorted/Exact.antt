-- docs/SCOPE.md 13.2 to 13.4: what an accepted sort hands back is the sheet's, each figure exactly its units divided by
-- 2 ^ 20. Assumes nothing.
use Rattle.std.specs.Prelude.{◌≡◌, refl, List, [], ◌∷◌, map, ℕ, suc, ◌^◌, ◌≤◌, ◌<◌, Float, ℤ, pos, length, get_or}
use Rattle.std.specs.Prelude.{Ok, Some}
use Rattle.std.proofs.Math.Path.{sym, subst}
use Rattle.std.proofs.Common.{ap, ◌∙◌, not-suc-le-zero, le_of_suc-le-suc, arith}
use Prim.Native.Nat as Nat
use Rattle.std.proofs.Math.ListN.{drop, get_or-append}
use Rattle.std.proofs.lemmas.List.{length-map}
use Rattle.std.proofs.Math.Seq.{drop-append_seam}
use Rattle.rounding.specs.Every.{Every, every_at}
use Rattle.rounding.specs.Signed.{∣◌∣}
use Rattle.reading.specs.Grid.{value_of}
use Rattle.reading.proofs.Theorems.Grid.Laws.{value_exact}
use Rattle.colour.specs.Conversion.Ranges.{OnGrid}
use Rattle.colour.specs.Placed.{place, Reading}
use Rattle.colour.proofs.Theorems.Refusal.{number-some}
use Rattle.colour.specs.White.{white_numbered}
use Rattle.colour.specs.declared.conversion.GridColour.{GridColour}
use Rattle.colour.specs.declared.white.White.{White}
use Rattle.cones.specs.InTurn.{Turns, whole, refused, number_of}
use Rattle.cones.proofs.Theorems.InTurn.Exactly.{AllTaken, taken-length, taken_at, whole_exactly}
use Rattle.cones.specs.Cones.{readings_of, no_reading, turn_in, cones_in, no_colour}
use Rattle.cones.proofs.Theorems.Cones.Laws.{readings_length, taken_on_grid}
use Rattle.colour.specs.declared.placed.Space.{Space}
use Rattle.standard.specs.Figures.{zero}
use Rattle.standard.proofs.Theorems.Figures.Exact.{Exact}
use Rattle.delivery.specs.declared.sorted.Sorted.{Sorted}
use Rattle.delivery.specs.Delivery.{mean_colour, difference_from, differences}
use Rattle.delivery.proofs.Theorems.Delivery.Laws.{mean_on_grid, difference-lt}
use Rattle.delivery.specs.Farthest.{farthest}
use Rattle.delivery.proofs.Theorems.Farthest.Laws.{IsFarthest, farthest_is}
use Rattle.delivery.specs.Written.{written}
use Rattle.delivery.specs.Sorted.{is_shaped, delivered, sorted_of, answer_of, figures, left_in, Sorts, CallIn}
use Rattle.delivery.proofs.Theorems.Sorted.Laws.{call_in, Comes, wrong-count, no_white_lem, wrong-factor, cones, comes}
use Rattle.delivery.proofs.Theorems.Sorted.Laws.{answer-number}

-- x is the float of z units, and exactly z / 2 ^ 20
pub record Handed (z : ℤ) (x : Float) : Type 0 where
  pub is : x ≡ value_of z
  pub exact : Exact z x

-- what was sorted: a white and the colours of all cones in it, l and c in their ranges
pub record Delivery (k : Space) (white l c : ℕ) (xs ys zs de : List Float) : Type 0 where
  pub call : CallIn l c xs ys zs de
  pub in_white : White
  pub white_is : white_numbered white ≡ Some in_white
  pub colours : List GridColour
  -- each cone is read and placed at its colour
  pub placed : AllTaken (turn_in in_white) (readings_of k xs ys zs) colours

module _ {k : Space} {white l c : ℕ} {xs ys zs de : List Float} (d : Delivery k white l c xs ys zs de) where
  abbrev pub mean : GridColour
  mean = mean_colour d.colours

  -- cone i, and its DE
  abbrev pub cone : (i : ℕ) → GridColour
  cone i = get_or d.colours i no_colour

  abbrev pub DE : (i : ℕ) → ℕ
  DE i = difference_from l c mean (cone i)

  pub record HandedBack (r : Sorted) (left : List Float) : Type 0 where
    -- the mean
    pub lightness : Handed mean.L.0 r.lightness
    pub a : Handed mean.a.0 r.a
    pub b : Handed mean.b.0 r.b
    pub count : r.cones ≡ length xs
    -- each cone's DE, and every entry past the count as it was
    pub entry : (i : ℕ) → i < length xs → Handed (pos (DE i)) (get_or left i zero)
    pub rest : drop (length xs) left ≡ drop (length xs) de
    -- the farthest: no cone is farther, and those before it are nearer
    pub farthest-cone : r.farthest < length xs
    pub farthest-greatest : (i : ℕ) → i < length xs → DE i ≤ DE r.farthest
    pub farthest_first : (i : ℕ) → i < r.farthest → DE i < DE r.farthest

  -- ---- they lie on the grid

  pub colours-count : length d.colours ≡ length xs
  colours-count =
      taken-length (turn_in d.in_white) d.placed ∙ readings_length k xs ys zs d.call.shape.even

  pub colours_on_grid : Every OnGrid d.colours
  colours_on_grid = taken_on_grid d.in_white d.placed

  pub cone_on_grid : (i : ℕ) → i < length xs → OnGrid (cone i)
  cone_on_grid i few = every_at colours_on_grid i no_colour (rw colours-count few)

  -- the reading of cone i is placed at its colour
  pub cone-placed :
      (i : ℕ) → i < length xs → place d.in_white (get_or (readings_of k xs ys zs) i no_reading) ≡ Ok (cone i)
  cone-placed i few =
      taken_at (turn_in d.in_white) d.placed i no_reading no_colour (rw (readings_length k xs ys zs d.call.shape.even) few)

  pub mean_in_range : OnGrid mean
  mean_in_range = mean_on_grid (omega (arith, colours-count, d.call.shape.some)) colours_on_grid

-- ---- what is handed back of them

handed : (z : ℤ) → ∣ z ∣ ≤ 2 ^ 53 → Handed z (value_of z)
handed z h = record { is = refl; exact = value_exact z h }

-- element i of a list's image
map_at :
    {A B : Type 0} (f : A → B) (s : List A) (i : ℕ) (d : A) (e : B) → i < length s →
    get_or (map f s) i e ≡ f (get_or s i d)
map_at f [] i d e l = absurd (not-suc-le-zero l)
map_at f (x ∷ xs) Nat.zero d e l = refl
map_at f (x ∷ xs) (suc i) d e l = map_at f xs i d e (le_of_suc-le-suc l)

module _ {k : Space} {white l c : ℕ} {xs ys zs de : List Float} (d : Delivery k white l c xs ys zs de) where
  abbrev all : List ℕ
  all = differences l c d.colours

  all_count : length all ≡ length xs
  all_count = length-map d.colours (difference_from l c (mean d)) ∙ colours-count d

  all_at : (i : ℕ) → i < length xs → get_or all i 0 ≡ DE d i
  all_at i few = map_at (difference_from l c (mean d)) d.colours i no_colour 0 (rw (colours-count d) few)

  entries : (i : ℕ) → i < length xs → get_or (written (figures l c d.colours) de) i zero ≡ value_of (pos (DE d i))
  entries i few =
      let within : i < length all = rw all_count few in
      get_or-append (figures l c d.colours) _ zero i
      (rw (length-map all (λ (n : ℕ). value_of (pos n))) within)
      ∙ map_at (λ (n : ℕ). value_of (pos n)) all i 0 zero within
      ∙ ap (λ (n : ℕ). value_of (pos n)) (all_at i few)

  DE-handed : (i : ℕ) → i < length xs → Handed (pos (DE d i)) (value_of (pos (DE d i)))
  DE-handed i few =
      handed (pos (DE d i))
      (omega
      (arith, difference-lt d.call.lightness d.call.chroma (mean_in_range d) (cone_on_grid d i few)))

  far : IsFarthest all (farthest all)
  far = farthest_is all (rw all_count (omega (arith, d.call.shape.some)))

  far_within : (farthest all).at < length xs
  far_within = rw (sym all_count) far.within

  most : DE d (farthest all).at ≡ (farthest all).most
  most = sym (all_at (farthest all).at far_within) ∙ far.is

  handed_back : HandedBack d (sorted_of l c d.colours) (written (figures l c d.colours) de)
  unfolding sorted_of
  handed_back =
      let M = mean_in_range d in
      record {
        lightness = handed (mean d).L.0 (omega (arith, M.L));
        a = handed (mean d).a.0 (omega (arith, M.a));
        b = handed (mean d).b.0 (omega (arith, M.b));
        count = colours-count d;
        entry = λ i few. rw (entries i few) (DE-handed i few);
        rest =
            subst (λ (n : ℕ). drop n (written (figures l c d.colours) de) ≡ drop n de)
            (length-map all (λ (n : ℕ). value_of (pos n)) ∙ all_count)
            (drop-append_seam (figures l c d.colours) _);
        farthest-cone = far_within;
        farthest-greatest = λ i few. rw (most, sym (all_at i few)) (far.greatest i (rw all_count few));
        farthest_first =
            λ i before. rw (most, sym (all_at i (omega (arith, far_within)))) (far.first i before);
      }

-- ---- of every accepted sort

module _ (k : Space) (white l c : ℕ) (xs ys zs de : List Float) where
  abbrev Comes_back : Sorted → List Float → Type 0
  Comes_back s left = (d : Delivery k white l c xs ys zs de) × HandedBack d s left

  whole_handed :
      (w : White) → white_numbered white ≡ Some w → CallIn l c xs ys zs de → (t : Turns GridColour) →
      cones_in w (readings_of k xs ys zs) ≡ t → number_of t ≡ 0 → Comes_back (answer_of l c t) (left_in l c de t)
  whole_handed w e call (whole cs) is none =
      let d : Delivery k white l c xs ys zs de =
      record {
        call = call;
        in_white = w;
        white_is = e;
        colours = cs;
        placed = (whole_exactly (turn_in w) no_reading (readings_of k xs ys zs) cs).0 is;
      } in
      (d, handed_back d)
  whole_handed w e call (refused f i) is none = absurd (number-some f none)

  -- THE SHEET'S, DIGIT FOR DIGIT
  pub sorted_by_the_sheet :
      {r : Sorted} {left : List Float} → Sorts k white l c xs ys zs de r left → r.number ≡ 0 →
      (d : Delivery k white l c xs ys zs de) × HandedBack d r left
  sorted_by_the_sheet g zero_number =
      rw (g.answer, g.left)
      (go (delivered (is_shaped xs ys zs (length de)) white l c rs)
      (comes (is_shaped xs ys zs (length de)) white l c rs)
      (sym (answer-number l c (delivered (is_shaped xs ys zs (length de)) white l c rs))
      ∙ sym (ap (λ (a : Sorted). a.number) g.answer) ∙ zero_number))
    where
      rs : List Reading
      rs = readings_of k xs ys zs

      go :
          (t : Turns GridColour) → Comes (is_shaped xs ys zs (length de)) white l c rs t → number_of t ≡ 0 →
          Comes_back (answer_of l c t) (left_in l c de t)
      go t (wrong-count h) none = absurd (omega arith)
      go t (no_white_lem h e) none = absurd (omega arith)
      go t (wrong-factor h w e f) none = absurd (omega arith)
      go t (cones h w e f) none = whole_handed w e (call_in xs ys zs de h f) (cones_in w rs) refl none
