-- docs/SCOPE.md 13.6, of sorts as they are called: which are accepted; two sorts of the same cones in another order; a
-- sort whose cones all have one reading. Assumes nothing.
use Rattle.std.specs.Prelude.{◌≡◌, ◌↔◌, ℕ, ◌≤◌, ◌<◌, Float, pos, get_or, Ok, Some}
use Rattle.std.proofs.Common.{sym, ap₂, subst, ◌∙◌, arith}
use Rattle.std.proofs.Math.Path.{ap}
use mathlib.Core.List.{List, Permᴰ}
use Rattle.std.proofs.Math.ListN.{length}
use Rattle.rounding.specs.Every.{Every, every_at}
use Rattle.rounding.proofs.Theorems.Mean.Laws.{length_perm}
use Rattle.reading.specs.Grid.{value_of}
use Rattle.reading.proofs.Theorems.Reading.Cases.{reading_cases}
use Rattle.colour.specs.Placed.{place, Reading}
use Rattle.colour.specs.White.{white_numbered}
use Rattle.colour.specs.declared.conversion.GridColour.{GridColour}
use Rattle.colour.specs.declared.white.White.{White}
use Rattle.cones.specs.Zip.{Even}
use Rattle.cones.proofs.Theorems.InTurn.Exactly.{AllTaken, taken_at, taken_perm, taken_one, taken_same, whole_exactly}
use Rattle.cones.specs.Cones.{readings_of, no_reading, turn_in, no_colour}
use Rattle.cones.proofs.Theorems.Cones.Laws.{readings_length}
use Rattle.colour.specs.declared.placed.Space.{Space}
use Rattle.standard.specs.Figures.{zero}
use Rattle.delivery.specs.declared.sorted.Sorted.{Sorted}
use Rattle.delivery.specs.Delivery.{difference_from}
use Rattle.delivery.proofs.Theorems.Delivery.Facts.{mean_in_any_order, mean_of_one_colour, no_difference_of_one}
use Rattle.delivery.proofs.Theorems.Delivery.Facts.{farthest_of_one_colour}
use Rattle.delivery.specs.Sorted.{sorted_of, answer_of, Sorts}
use Rattle.delivery.proofs.Theorems.Sorted.Laws.{in_turn_of}
use Rattle.delivery.proofs.Theorems.Sorted.Exact.{Delivery, mean, cone, DE, colours-count, HandedBack, sorted_by_the_sheet}

-- ---- ACCEPTED, EXACTLY THEN: every cone is placed, and the call is in order

module _ (k : Space) (white l c : ℕ) (xs ys zs de : List Float) {r : Sorted} {left : List Float}
    (g : Sorts k white l c xs ys zs de r left) where
  answer_is : (d : Delivery k white l c xs ys zs de) → r ≡ sorted_of l c d.colours
  answer_is d =
      g.answer
      ∙ ap (answer_of l c)
      (in_turn_of white (readings_of k xs ys zs) d.call d.white_is
      ∙ (whole_exactly (turn_in d.in_white) no_reading (readings_of k xs ys zs) d.colours).1 d.placed)

  accepted : Delivery k white l c xs ys zs de → r.number ≡ 0
  unfolding sorted_of
  accepted d = ap (λ (s : Sorted). s.number) (answer_is d)

  pub accepted_exactly : r.number ≡ 0 ↔ Delivery k white l c xs ys zs de
  accepted_exactly = (λ none. (sorted_by_the_sheet k white l c xs ys zs de g none).0, accepted)

-- ---- THE SAME CONES IN ANOTHER ORDER

-- what two sorts hand back: one mean, and each cone's own DE, wherever it stands
pub record SameCones (rs ss : List Reading) (r s : Sorted) (left kept : List Float) : Type 0 where
  pub lightness : r.lightness ≡ s.lightness
  pub a : r.a ≡ s.a
  pub b : r.b ≡ s.b
  pub count : r.cones ≡ s.cones
  pub entry :
      (i j : ℕ) → i < length rs → j < length ss → get_or rs i no_reading ≡ get_or ss j no_reading →
      get_or left i zero ≡ get_or kept j zero

module _ (k : Space) (white l c : ℕ) (xs ys zs de us vs ws room : List Float) where
  abbrev rs : List Reading
  rs = readings_of k xs ys zs

  abbrev ss : List Reading
  ss = readings_of k us vs ws

  module _ (p : Permᴰ rs ss) where
    reordered : Even us vs ws → length us ≤ length room → Delivery k white l c xs ys zs de →
        Delivery k white l c us vs ws room
    reordered even enough d =
        let shape = d.call.shape in
        let same : length xs ≡ length us =
        sym (readings_length k xs ys zs shape.even) ∙ length_perm p ∙ readings_length k us vs ws even in
        let (colours, (placed, q)) = taken_perm (turn_in d.in_white) p d.placed in
        record {
          call =
              record {
                shape =
                    record {
                      some = omega (arith, same, shape.some);
                      few = omega (arith, same, shape.few);
                      enough = enough;
                      even = even;
                    };
                lightness = d.call.lightness;
                chroma = d.call.chroma;
              };
          in_white = d.in_white;
          white_is = d.white_is;
          colours = colours;
          placed = placed;
        }

    module _ (d : Delivery k white l c xs ys zs de) (e : Delivery k white l c us vs ws room) where
      one_white : d.in_white ≡ e.in_white
      one_white = let dw = d.white_is in let ew = e.white_is in cc

      permuted : Permᴰ d.colours e.colours
      permuted =
          let (colours, (placed, q)) = taken_perm (turn_in d.in_white) p d.placed in
          let again : AllTaken (turn_in d.in_white) ss e.colours = rw one_white e.placed in
          subst (λ (cs : List GridColour). Permᴰ d.colours cs) (taken_one (turn_in d.in_white) placed again) q

      one_mean : mean d ≡ mean e
      one_mean = mean_in_any_order permuted

      one_DE :
          (i j : ℕ) → i < length rs → j < length ss → get_or rs i no_reading ≡ get_or ss j no_reading → DE d i ≡ DE e j
      one_DE i j before after same =
          let here = taken_at (turn_in d.in_white) d.placed i no_reading no_colour before in
          let there = taken_at (turn_in e.in_white) e.placed j no_reading no_colour after in
          let turn = ap₂ turn_in one_white same in
          let cones : cone d i ≡ cone e j = cc in
          ap₂ (difference_from l c) one_mean cones

      handed_the_same :
          {r s : Sorted} {left kept : List Float} → HandedBack d r left → HandedBack e s kept →
          SameCones rs ss r s left kept
      handed_the_same h g =
          record {
            lightness = h.lightness.is ∙ ap (λ (m : GridColour). value_of m.L.0) one_mean ∙ sym g.lightness.is;
            a = h.a.is ∙ ap (λ (m : GridColour). value_of m.a.0) one_mean ∙ sym g.a.is;
            b = h.b.is ∙ ap (λ (m : GridColour). value_of m.b.0) one_mean ∙ sym g.b.is;
            count =
                h.count ∙ sym (readings_length k xs ys zs d.call.shape.even) ∙ length_perm p
                ∙ readings_length k us vs ws e.call.shape.even ∙ sym g.count;
            entry =
                λ i j before after same.
                (h.entry i (rw (sym (readings_length k xs ys zs d.call.shape.even)) before)).is
                ∙ ap (λ (n : ℕ). value_of (pos n)) (one_DE i j before after same)
                ∙ sym (g.entry j (rw (sym (readings_length k us vs ws e.call.shape.even)) after)).is;
          }

    module _ {r s : Sorted} {left kept : List Float} (g : Sorts k white l c xs ys zs de r left)
        (h : Sorts k white l c us vs ws room s kept) (none : r.number ≡ 0) where
      -- accepted too, if the slices have the shape for it
      pub accepted_in_another_order : Even us vs ws → length us ≤ length room → s.number ≡ 0
      accepted_in_another_order even enough =
          accepted k white l c us vs ws room h
          (reordered even enough ((accepted_exactly k white l c xs ys zs de g).0 none))

      pub sorted_in_another_order : s.number ≡ 0 → SameCones rs ss r s left kept
      sorted_in_another_order none-too =
          let (d, back) = sorted_by_the_sheet k white l c xs ys zs de g none in
          let (e, again) = sorted_by_the_sheet k white l c us vs ws room h none-too in
          handed_the_same d e back again

-- ---- CONES OF ONE READING

-- the mean is that reading's colour, every DE is 0.0, and no cone is farther than cone 0
pub record OneReading (white : ℕ) (one : Reading) (r : Sorted) (left : List Float) : Type 0 where
  pub in_white : White
  pub white_is : white_numbered white ≡ Some in_white
  pub colour : GridColour
  pub placed : place in_white one ≡ Ok colour
  pub lightness : r.lightness ≡ value_of colour.L.0
  pub a : r.a ≡ value_of colour.a.0
  pub b : r.b ≡ value_of colour.b.0
  pub entry : (i : ℕ) → i < r.cones → get_or left i zero ≡ zero
  pub farthest : r.farthest ≡ 0

module _ {k : Space} {white l c : ℕ} {xs ys zs de : List Float} (d : Delivery k white l c xs ys zs de) {one : Reading}
    (same : Every (λ (r : Reading). r ≡ one) (readings_of k xs ys zs)) where
  some : 0 < length (readings_of k xs ys zs)
  some = rw (readings_length k xs ys zs d.call.shape.even) (omega (arith, d.call.shape.some))

  turn_of_one : turn_in d.in_white one ≡ Ok (cone d 0)
  turn_of_one =
      ap (turn_in d.in_white) (sym (every_at same 0 no_reading some))
      ∙ taken_at (turn_in d.in_white) d.placed 0 no_reading no_colour some

  one_colour : Every (λ (c : GridColour). c ≡ cone d 0) d.colours
  one_colour = taken_same (turn_in d.in_white) turn_of_one d.placed same

  some_colours : 0 < length d.colours
  some_colours = rw (colours-count d) (omega (arith, d.call.shape.some))

  mean_is : mean d ≡ cone d 0
  mean_is = mean_of_one_colour (cone d 0) some_colours one_colour

  DE_is : (i : ℕ) → i < length xs → DE d i ≡ 0
  DE_is i few =
      ap₂ (difference_from l c) mean_is (every_at one_colour i no_colour (rw (colours-count d) few))
      ∙ no_difference_of_one l c (cone d 0)

  handed_of_one :
      {r : Sorted} {left : List Float} → r ≡ sorted_of l c d.colours → HandedBack d r left →
      OneReading white one r left
  unfolding sorted_of
  handed_of_one is h =
      record {
        in_white = d.in_white;
        white_is = d.white_is;
        colour = cone d 0;
        placed = turn_of_one;
        lightness = h.lightness.is ∙ ap (λ (m : GridColour). value_of m.L.0) mean_is;
        a = h.a.is ∙ ap (λ (m : GridColour). value_of m.a.0) mean_is;
        b = h.b.is ∙ ap (λ (m : GridColour). value_of m.b.0) mean_is;
        entry =
            λ i few.
            let within : i < length xs = rw (sym h.count) few in
            (h.entry i within).is ∙ ap (λ (n : ℕ). value_of (pos n)) (DE_is i within)
            ∙ reading_cases.zero_back;
        farthest =
            ap (λ (s : Sorted). s.farthest) is
            ∙ farthest_of_one_colour (cone d 0) some_colours one_colour l c;
      }

pub sorted_of_one_reading :
    (k : Space) (white l c : ℕ) (xs ys zs de : List Float) {r : Sorted} {left : List Float} {one : Reading} →
    Sorts k white l c xs ys zs de r left → r.number ≡ 0 →
    Every (λ (r : Reading). r ≡ one) (readings_of k xs ys zs) → OneReading white one r left
sorted_of_one_reading k white l c xs ys zs de g none same =
    let (d, back) = sorted_by_the_sheet k white l c xs ys zs de g none in
    handed_of_one d same (answer_is k white l c xs ys zs de g d) back
