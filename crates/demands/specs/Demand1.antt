-- DEMAND 1, docs/SCOPE.md 2.1: EVERY CALL ANSWERS ONE OF ITS NUMBERS, EACH EXACTLY THEN (8.1 to 8.3), AND A REFUSED
-- CALL GIVES AND CHANGES NOTHING (8.4).
--
-- A load, a judgement and a ticket are called by value (`load_figures`, `judge_figures`, `ticket_figures` of
-- crates/calls), which answers the number with figures and names; or from C (crates/shade/src/lib.rt), which answers
-- the number and writes a lent slice. Each entry asks nothing of what it is given, and ends. Its contract says that its
-- answer is just `reference_answer ..`, `specimen_answer ..` or `ticket_answer ..`; or that its number n and the bytes ys
-- of its slice afterwards are those of a call, `Gives (load_call ..) n ys`. What follows holds of every such answer. The
-- numbers and the rows, one for each number, are the fields of `LoadByValue`, `LoadByCall` and so on, which stand in
-- crates/calls/specs/Exactly.antt. A sort hands back a struct and writes a lent slice, for a host in Rattle (`sort` of
-- crates/delivery) and from C alike: its contract is `Sorts ..`. Assumes nothing.
use Rattle.std.specs.Prelude.{◌≡◌, List, [], ◌∷◌, ℕ, Float, length, None}
use Rattle.std.proofs.Common.{sym, ap, ap₂, subst, ◌∙◌}
use Rattle.colour.specs.Placed.{Reading}
use Rattle.colour.specs.declared.placed.Values.TheVariants.{Xyz, Lab}
use Rattle.cones.specs.InTurn.{number_of, index_of}
use Rattle.cones.specs.Cones.{readings_of}
use Rattle.colour.specs.declared.placed.Space.{Space}
use Rattle.delivery.specs.Sorted.{is_shaped, refused_with, sort_call, Sorts}
use Rattle.delivery.proofs.Theorems.Sorted.Laws.{answer-number, answer-cone, refusal-kept}
use Rattle.delivery.specs.declared.sorted.Sorted.{Sorted}
use Rattle.ticket.specs.Ticket.{ticket_of}
use Rattle.ticket.specs.Ticket.Grammar.{WrongAt}
use Rattle.ticket.proofs.Theorems.Ticket.Grammar.Wrong.{wrong_exactly}
use Rattle.standard.specs.Acceptance.{settings_of}
use Rattle.standard.specs.Figures.{no_reference, reference_answer, no_specimen, specimen_answer}
use Rattle.standard.specs.declared.figures.ReferenceAnswer.{ReferenceAnswer}
use Rattle.standard.specs.declared.figures.SpecimenAnswer.{SpecimenAnswer}
use Rattle.station.specs.Record.{decode}
use Rattle.calls.specs.Outcome.{loaded, judged_by}
use Rattle.calls.specs.Line.{ticket_answer}
use Rattle.calls.proofs.Theorems.Line.Laws.{line_with_7, line_0_but_for_7}
use Rattle.calls.specs.declared.figures.TicketAnswer.{TicketAnswer}
use Rattle.calls.specs.Calls.{Gives, load_call, judge_call, ticket_call}
use Rattle.calls.specs.Calls.Numbers.{OneOf}
use Rattle.calls.specs.Exactly.{LoadByValue, LoadByCall, JudgeByValue, JudgeByCall, TicketByValue, TicketByCall}
use Rattle.calls.specs.Exactly.{SortRows, RefusedCone}
use Rattle.calls.proofs.Theorems.Exactly.Loads.{load_by_value, load_by_call}
use Rattle.calls.proofs.Theorems.Exactly.Judgements.{judge_by_value, judge_by_call}
use Rattle.calls.proofs.Theorems.Exactly.Tickets.{ticket_by_value, ticket_by_call}
use Rattle.calls.proofs.Theorems.Exactly.Sorts.{sort-rows, refused-cone}
use Rattle.calls.proofs.Theorems.Exactly.Refused.{reference-answers, specimen-answers}
use Rattle.calls.proofs.Theorems.Exactly.Refused.{load_kept, judge-kept, ticket-kept, given-kept, number_given, station-kept}
use Rattle.calls.specs.Runs.{Call, slice_after}

-- ---- BY VALUE: each number exactly then, and with any but 0 every figure is 0.0, and there is no name

abbrev pub NoFigures : SpecimenAnswer → Type 0
NoFigures a = (a.figures ≡ no_specimen) × (a.names ≡ None)

-- whatever `load_figures` answers
pub load-figures :
    (formula white l c tolerance : ℕ) (r : Reading) {a : ReferenceAnswer} →
    a ≡ reference_answer (loaded (settings_of formula white l c tolerance) r) →
    LoadByValue a.number formula white l c tolerance r × (¬ (a.number ≡ 0) → a.figures ≡ no_reference)
load-figures formula white l c tolerance r e =
    reference-answers (λ n. LoadByValue n formula white l c tolerance r) _ e
    (load_by_value formula white l c tolerance r)

-- whatever `judge_figures` answers, of the slice xs
pub judge-figures :
    (xs : List ℕ) (r : Reading) {a : SpecimenAnswer} → a ≡ specimen_answer (judged_by (decode xs) r) →
    JudgeByValue a.number xs r × (¬ (a.number ≡ 0) → NoFigures a)
judge-figures xs r e = specimen-answers (λ n. JudgeByValue n xs r) _ e (judge_by_value xs r)

-- whatever `ticket_figures` answers; with 7 its line is the first wrong one, and with any other number it is 0
pub ticket-figures :
    (text : List ℕ) {a : TicketAnswer} → a ≡ ticket_answer (ticket_of text) →
    TicketByValue a.answer.number text × (¬ (a.answer.number ≡ 0) → NoFigures a.answer)
unfolding ticket_answer
ticket-figures text e =
    specimen-answers (λ n. TicketByValue n text) _ (ap (λ (a : TicketAnswer). a.answer) e) (ticket_by_value text)

pub ticket-line :
    (text : List ℕ) {a : TicketAnswer} → a ≡ ticket_answer (ticket_of text) →
    (a.answer.number ≡ 7 → WrongAt a.line text) × (¬ (a.answer.number ≡ 7) → a.line ≡ 0)
ticket-line text e =
    rw e (
      λ seven. (wrong_exactly text _).0 (line_with_7 (ticket_of text) seven),
      λ other. line_0_but_for_7 (ticket_of text)
          other,
    )

-- ---- FROM C: each number exactly then, and with any but 0 no byte of the slice is written

module _ (xs : List ℕ) (formula white l c tolerance : ℕ) {n : ℕ} {ys : List ℕ} where
  -- `load_call`
  pub load_given :
      (r : Reading) → Gives (load_call xs formula white l c tolerance r) n ys →
      LoadByCall n xs formula white l c tolerance r × (¬ (n ≡ 0) → ys ≡ xs)
  load_given r g =
      given-kept (λ k. LoadByCall k xs formula white l c tolerance r) g (load_by_call formula white l c tolerance r xs)
      (load_kept xs formula white l c tolerance r)

  -- its number is one of these
  pub load_one_of :
      (r : Reading) → Gives (load_call xs formula white l c tolerance r) n ys →
      OneOf n (0 ∷ 1 ∷ 2 ∷ 3 ∷ 4 ∷ 5 ∷ 6 ∷ 8 ∷ 10 ∷ [])
  load_one_of r g = (load_given r g).0.one_of

  -- `shade_load_xyz`
  pub shade_load_xyz_lem :
      (x y z : Float) → Gives (load_call xs formula white l c tolerance (Xyz x y z)) n ys →
      LoadByCall n xs formula white l c tolerance (Xyz x y z) × (¬ (n ≡ 0) → ys ≡ xs)
  shade_load_xyz_lem x y z g = load_given (Xyz x y z) g

  -- `shade_load_lab`
  pub shade_load_lab_lem :
      (lightness a b : Float) → Gives (load_call xs formula white l c tolerance (Lab lightness a b)) n ys →
      LoadByCall n xs formula white l c tolerance (Lab lightness a b) × (¬ (n ≡ 0) → ys ≡ xs)
  shade_load_lab_lem lightness a b g = load_given (Lab lightness a b) g

module _ (xs : List ℕ) (room : List ℕ) (column : ℕ) {n : ℕ} {ys : List ℕ} where
  -- `judge_call`
  pub judge-given :
      (r : Reading) → Gives (judge_call xs r room column) n ys → JudgeByCall n xs r room column × (¬ (n ≡ 0) → ys ≡ room)
  judge-given r g =
      given-kept (λ k. JudgeByCall k xs r room column) g (judge_by_call xs r room column) (judge-kept xs r room column)

  -- its number is one of these
  pub judge_one_of :
      (r : Reading) → Gives (judge_call xs r room column) n ys → OneOf n (0 ∷ 5 ∷ 6 ∷ 8 ∷ 9 ∷ 10 ∷ [])
  judge_one_of r g = (judge-given r g).0.one_of

  -- `shade_judge_xyz`
  pub shade_judge_xyz_lem :
      (x y z : Float) → Gives (judge_call xs (Xyz x y z) room column) n ys →
      JudgeByCall n xs (Xyz x y z) room column × (¬ (n ≡ 0) → ys ≡ room)
  shade_judge_xyz_lem x y z g = judge-given (Xyz x y z) g

  -- `shade_judge_lab`
  pub shade_judge_lab_lem :
      (lightness a b : Float) → Gives (judge_call xs (Lab lightness a b) room column) n ys →
      JudgeByCall n xs (Lab lightness a b) room column × (¬ (n ≡ 0) → ys ≡ room)
  shade_judge_lab_lem lightness a b g = judge-given (Lab lightness a b) g

-- `ticket_call` and `shade_ticket`
pub shade_ticket_lem :
    (text room : List ℕ) (column : ℕ) {n : ℕ} {ys : List ℕ} → Gives (ticket_call text room column) n ys →
    TicketByCall n text room column × (¬ (n ≡ 0) → ys ≡ room)
shade_ticket_lem text room column g =
    given-kept (λ k. TicketByCall k text room column) g (ticket_by_call text room column) (ticket-kept text room column)

-- its number is one of these
pub ticket_one_of :
    (text room : List ℕ) (column : ℕ) {n : ℕ} {ys : List ℕ} → Gives (ticket_call text room column) n ys →
    OneOf n (0 ∷ 3 ∷ 4 ∷ 6 ∷ 7 ∷ 8 ∷ 10 ∷ [])
ticket_one_of text room column g = (shade_ticket_lem text room column g).0.one_of

-- ---- THE STANDARD IN FORCE STAYS: after a refused call of any kind the slice xs is as it was, and holds what it held

pub standard-stays :
    (xs : List ℕ) (call : Call) → ¬ (number_given xs call ≡ 0) →
    (slice_after xs (call ∷ []) ≡ xs) × (decode (slice_after xs (call ∷ [])) ≡ decode xs)
standard-stays xs call some = let same = station-kept xs call some in (same, ap decode same)

-- ---- A SORT

module _ (k : Space) (white l c : ℕ) (xs ys zs de : List Float) where
  -- each number exactly then, with the cone that it is of; and with any but 0 every other field is 0 or 0.0, and no
  -- entry of the slice is written
  pub record SortGiven (r : Sorted) (left : List Float) : Type 0 where
    pub rows : SortRows white l c xs ys zs (length de) (readings_of k xs ys zs) r.number
    pub cone : RefusedCone white (readings_of k xs ys zs) r.number r.cone
    pub kept : ¬ (r.number ≡ 0) → (r ≡ refused_with r.number r.cone) × (left ≡ de)

  -- `sort`
  pub sort-given : {r : Sorted} {left : List Float} → Sorts k white l c xs ys zs de r left → SortGiven r left
  sort-given {r} {left} g =
      let t = sort_call k white l c xs ys zs (length de) in
      let n : number_of t ≡ r.number = sym (answer-number l c t) ∙ sym (ap (λ (a : Sorted). a.number) g.answer) in
      let i : index_of t ≡ r.cone = sym (answer-cone l c t) ∙ sym (ap (λ (a : Sorted). a.cone) g.answer) in
      record {
        rows =
            subst (SortRows white l c xs ys zs (length de) (readings_of k xs ys zs)) n
            (sort-rows white l c xs ys zs (length de) (readings_of k xs ys zs));
        cone =
            subst (λ (m : ℕ). RefusedCone white (readings_of k xs ys zs) m r.cone) n
            (subst (RefusedCone white (readings_of k xs ys zs) (number_of t)) i
            (refused-cone white (readings_of k xs ys zs) (is_shaped xs ys zs (length de)) l c));
        kept =
            λ some.
            let (same, left_is) = refusal-kept l c t de (λ none. some (sym n ∙ none)) in
            (g.answer ∙ same ∙ ap₂ refused_with n i, g.left ∙ left_is);
      }

-- `shade_sort_xyz`
pub shade_sort_xyz_lem :
    (white l c : ℕ) (x y z de : List Float) {r : Sorted} {left : List Float} → Sorts Space.Xyz white l c x y z de r left →
    SortGiven Space.Xyz white l c x y z de r left
shade_sort_xyz_lem white l c x y z de g = sort-given Space.Xyz white l c x y z de g

-- `shade_sort_lab`
pub shade_sort_lab_lem :
    (white l c : ℕ) (lightness a b de : List Float) {r : Sorted} {left : List Float} →
    Sorts Space.Lab white l c lightness a b de r left → SortGiven Space.Lab white l c lightness a b de r left
shade_sort_lab_lem white l c lightness a b de g = sort-given Space.Lab white l c lightness a b de g
