-- The number of a sort is that of the first of its rules that holds, and so its rows are true; and which cone it names.
-- Assumes nothing.
use Rattle.std.specs.Prelude.{◌≡◌, refl, Bool, true, false, List, [], ◌∷◌, ◌↔◌, ◌⊎◌, ℕ, leb, eqb, Float, length, Option, Some, None}
use Rattle.std.proofs.Common.{sym, ap, subst, ◌∙◌, true≢false, inl, inr, ⊎_elim, not-le_of_lt, arith, leb-true, leb-false, eqb-true}
use Rattle.std.proofs.lemmas.Bool.{eqb-false}
use Rattle.colour.specs.Refusal.{number_of_refusal}
use Rattle.colour.specs.declared.refusal.Refusal.{Refusal}
use Rattle.colour.specs.declared.refusal.Refusal.TheVariants as Why
use Rattle.colour.proofs.Theorems.Refusal.{number-only}
use Rattle.colour.specs.Placed.Exactly.{NotFinite}
use Rattle.colour.specs.White.{white_numbered}
use Rattle.colour.specs.declared.conversion.GridColour.{GridColour}
use Rattle.colour.specs.Placed.{Reading}
use Rattle.colour.specs.declared.white.White.{White}
use Rattle.sheet.specs.Settings.{within, is_factor}
use Rattle.sheet.proofs.Theorems.Settings.Laws.{within_true, within_in}
use Rattle.cones.specs.InTurn.{Turns, whole, refused, number_of, index_of}
use Rattle.cones.specs.Cones.{cones_in}
use Rattle.cones.proofs.Theorems.Cones.Exactly.{FirstBy, OutAlone, BeyondAlone, cone-rows, cone_refused_by}
use Rattle.station.specs.Record.Exactly.{NoWhite, FactorsOut}
use Rattle.station.specs.Record.Exactly.Accepting.{inside_of, outside_of, Whites, white_none, white_one, whites}
use Rattle.delivery.specs.Sorted.{is_shaped, Shaped, are_factors, delivered}
use Rattle.delivery.proofs.Theorems.Sorted.Laws.{shaped_of_test, test_of_shaped, factors_of_test, test_of_factors}
use Rattle.delivery.proofs.Theorems.Sorted.Laws.{Comes, wrong-count, no_white_lem, wrong-factor, cones, comes}
use Rattle.calls.specs.Calls.Numbers.{is_one_of, OneOf}
use Rattle.calls.specs.Exactly.{WrongCount, of_count, of_room, of_second, of_third, SomeFirst}
use Rattle.calls.specs.Exactly.{ConeNotFinite, ConeOut, ConeBeyond, SortRows, RefusedCone}
use Rattle.calls.specs.Exactly.First.{Rule, rule, First, here, later, Same, more, first_same}
use Rattle.calls.proofs.Theorems.Exactly.Rows.{row, row_zero}

-- ---- 11

module _ (xs ys zs : List Float) (room : ℕ) where
  of_shape : is_shaped xs ys zs room ≡ false → WrongCount xs ys zs room
  of_shape e =
      go (within 2 256 (length xs)) refl (leb (length xs) room) refl (eqb (length ys) (length xs)) refl
      (eqb (length zs) (length xs)) refl
    where
      shaped :
          within 2 256 (length xs) ≡ true → leb (length xs) room ≡ true → eqb (length ys) (length xs) ≡ true →
          eqb (length zs) (length xs) ≡ true → is_shaped xs ys zs room ≡ true
      shaped p q r s =
          let (some, few) = within_true 2 256 (length xs) p in
          test_of_shaped xs ys zs room
          (record {
            some = some;
            few = few;
            enough = leb-true _ _ q;
            even = record { ys-length = eqb-true _ _ r; zs-length = eqb-true _ _ s };
          })

      go :
          (p : Bool) → within 2 256 (length xs) ≡ p → (q : Bool) → leb (length xs) room ≡ q →
          (r : Bool) → eqb (length ys) (length xs) ≡ r → (s : Bool) → eqb (length zs) (length xs) ≡ s →
          WrongCount xs ys zs room
      go false hp q hq r hr s hs = of_count (outside_of 2 256 (length xs) hp)
      go true hp false hq r hr s hs = of_room (leb-false _ _ hq)
      go true hp true hq false hr s hs = of_second (eqb-false _ _ hr)
      go true hp true hq true hr false hs = of_third (eqb-false _ _ hs)
      go true hp true hq true hr true hs = absurd (true≢false (sym (shaped hp hq hr hs) ∙ e))

  right-count : is_shaped xs ys zs room ≡ true → ¬ (WrongCount xs ys zs room)
  right-count h wrong = go (shaped_of_test xs ys zs room h) wrong
    where
      go : Shaped xs ys zs room → WrongCount xs ys zs room → ⊥
      go s (of_count o) = inside_of 2 256 (length xs) (within_in 2 256 (length xs) s.some s.few) o
      go s (of_room l) = not-le_of_lt l s.enough
      go s (of_second f) = f s.even.ys-length
      go s (of_third f) = f s.even.zs-length

-- ---- 2

unknown-white : (white : ℕ) → white_numbered white ≡ None → NoWhite white
unknown-white white e = go (whites white) e
  where
    go : {v : Option White} → Whites white v → v ≡ None → NoWhite white
    go (white_none n) h = n
    go (white_one n w) h = let no : ◌≡◌ {A = ℕ} 0 1 = cc in absurd (omega arith)

known_white : (white : ℕ) {w : White} → white_numbered white ≡ Some w → ¬ (NoWhite white)
known_white white {w} e = go (whites white) e
  where
    go : {v : Option White} → Whites white v → v ≡ Some w → ¬ (NoWhite white)
    go (white_none n) h = let no : ◌≡◌ {A = ℕ} 0 1 = cc in absurd (omega arith)
    go (white_one n u) h = n

-- ---- 3

factors_out : (l c : ℕ) → are_factors l c ≡ false → FactorsOut l c
factors_out l c e = go (is_factor l) refl (is_factor c) refl
  where
    go : (p : Bool) → is_factor l ≡ p → (q : Bool) → is_factor c ≡ q → FactorsOut l c
    go false hp q hq = inl (outside_of 500 10000 l hp)
    go true hp false hq = inr (outside_of 500 10000 c hq)
    go true hp true hq = absurd (true≢false (sym (test_of_factors l c hp hq) ∙ e))

factors_in : (l c : ℕ) → are_factors l c ≡ true → ¬ (FactorsOut l c)
factors_in l c h out =
    let (p, q) = factors_of_test l c h in
    ⊎_elim (inside_of 500 10000 l p) (inside_of 500 10000 c q) out

-- ---- 5, 6, 8 of the first refused cone

module _ (w : White) (rs : List Reading) where
  abbrev SomeCone : (Reading → Type 0) → Type 0
  SomeCone A = (i : ℕ) × FirstBy w A rs i

  -- a delivery is refused with one number, or whole
  one_number : {n m : Refusal} {i j : ℕ} → cones_in w rs ≡ refused n i → cones_in w rs ≡ refused m j → n ≡ m
  one_number e f = cc

  not_whole : {cs : List GridColour} {m : Refusal} {j : ℕ} → cones_in w rs ≡ whole cs → cones_in w rs ≡ refused m j → ⊥
  not_whole e f = let no : ◌≡◌ {A = ℕ} 0 1 = cc in omega arith

  abbrev cone_rules : List Rule
  cone_rules = rule 5 (SomeCone NotFinite) ∷ rule 6 (SomeCone (OutAlone w)) ∷ rule 8 (SomeCone (BeyondAlone w)) ∷ []

  by_5 : (f : SomeCone NotFinite) → cones_in w rs ≡ refused Why.NotANumber f.0
  by_5 f = (cone-rows w rs f.0).is_5.1 f.1

  by_6 : (f : SomeCone (OutAlone w)) → cones_in w rs ≡ refused Why.OutOfRange f.0
  by_6 f = (cone-rows w rs f.0).is_6.1 f.1

  by_8 : (f : SomeCone (BeyondAlone w)) → cones_in w rs ≡ refused Why.Beyond256 f.0
  by_8 f = (cone-rows w rs f.0).is_8.1 f.1

  cone_first : First cone_rules (number_of (cones_in w rs))
  cone_first = go (cones_in w rs) refl
    where
      first_of :
          {n : Refusal} {i : ℕ} → cones_in w rs ≡ refused n i →
          (n ≡ Why.NotANumber) ⊎ ((n ≡ Why.OutOfRange) ⊎ (n ≡ Why.Beyond256)) → First cone_rules (number_of_refusal n)
      first_of {n} {i} e (inl h) =
          subst (λ (m : Refusal). First cone_rules (number_of_refusal m)) (sym h)
          (here (i, (cone-rows w rs i).is_5.0 (e ∙ ap (λ (m : Refusal). refused m i) h)))
      first_of {n} {i} e (inr (inl h)) =
          subst (λ (m : Refusal). First cone_rules (number_of_refusal m)) (sym h)
          (later (λ f. omega (arith, ap number_of_refusal (one_number e (by_5 f)), ap number_of_refusal h))
          (here (i, (cone-rows w rs i).is_6.0 (e ∙ ap (λ (m : Refusal). refused m i) h))))
      first_of {n} {i} e (inr (inr h)) =
          subst (λ (m : Refusal). First cone_rules (number_of_refusal m)) (sym h)
          (later (λ f. omega (arith, ap number_of_refusal (one_number e (by_5 f)), ap number_of_refusal h))
          (later (λ f. omega (arith, ap number_of_refusal (one_number e (by_6 f)), ap number_of_refusal h))
          (here (i, (cone-rows w rs i).is_8.0 (e ∙ ap (λ (m : Refusal). refused m i) h)))))

      go : (t : Turns GridColour) → cones_in w rs ≡ t → First cone_rules (number_of t)
      go (refused n i) e = first_of e (cone_refused_by w rs e)
      go (whole cs) e =
          later (λ f. not_whole e (by_5 f)) (later (λ f. not_whole e (by_6 f)) (later (λ f. not_whole e (by_8 f))
          First.none))

-- ---- the whole call

module _ (white l c : ℕ) (xs ys zs : List Float) (room : ℕ) (rs : List Reading) where
  abbrev sort_rules : List Rule
  sort_rules =
      rule 11 (WrongCount xs ys zs room) ∷ rule 2 (NoWhite white) ∷ rule 3 (FactorsOut l c)
      ∷ rule 5 (ConeNotFinite white rs) ∷ rule 6 (ConeOut white rs) ∷ rule 8 (ConeBeyond white rs) ∷ []

  in_white :
      {w : White} (A : White → Reading → Type 0) → white_numbered white ≡ Some w → SomeCone w rs (A w) ↔ SomeFirst white A rs
  in_white {w} A e = (
    λ f. (f.0, (w, e, f.1)),
    λ f. (f.0, subst (λ (v : White). FirstBy v (A v) rs f.0) (cc f.1.1) f.1.2),
  )

  abbrev number : Bool → ℕ
  number shaped = number_of (delivered shaped white l c rs)

  sort_first : First sort_rules (number (is_shaped xs ys zs room))
  sort_first = go (delivered (is_shaped xs ys zs room) white l c rs) (comes (is_shaped xs ys zs room) white l c rs)
    where
      go : (t : Turns GridColour) → Comes (is_shaped xs ys zs room) white l c rs t → First sort_rules (number_of t)
      go t (wrong-count h) = here (of_shape xs ys zs room h)
      go t (no_white_lem h e) = later (right-count xs ys zs room h) (here (unknown-white white e))
      go t (wrong-factor h w e f) =
          later (right-count xs ys zs room h) (later (known_white white e) (here (factors_out l c f)))
      go t (cones h w e f) =
          later (right-count xs ys zs room h) (later (known_white white e) (later (factors_in l c f)
          (first_same
          (more (in_white (λ v. NotFinite) e) (more (in_white (λ v. OutAlone v) e)
          (more (in_white BeyondAlone e) Same.none)))
          (cone_first w rs))))

  one_of :
      {A B C D E F : Type 0} {n : ℕ} →
      First (rule 11 A ∷ rule 2 B ∷ rule 3 C ∷ rule 5 D ∷ rule 6 E ∷ rule 8 F ∷ []) n →
      OneOf n (0 ∷ 2 ∷ 3 ∷ 5 ∷ 6 ∷ 8 ∷ 11 ∷ [])
  one_of (here h) = refl
  one_of (later p (here h)) = refl
  one_of (later p (later q (here h))) = refl
  one_of (later p (later q (later r (here h)))) = refl
  one_of (later p (later q (later r (later s (here h))))) = refl
  one_of (later p (later q (later r (later s (later t (here h)))))) = refl
  one_of (later p (later q (later r (later s (later t (later u First.none)))))) = refl

  -- EACH NUMBER OF A SORT EXACTLY THEN
  pub sort-rows : SortRows white l c xs ys zs room rs (number (is_shaped xs ys zs room))
  sort-rows =
      record {
        one_of = one_of sort_first;
        is_11 = row sort_first 11 refl;
        is_2 = row sort_first 2 refl;
        is_3 = row sort_first 3 refl;
        is_5 = row sort_first 5 refl;
        is_6 = row sort_first 6 refl;
        is_8 = row sort_first 8 refl;
        is_0 = row_zero refl sort_first;
      }

-- ---- which cone

module _ (white : ℕ) (rs : List Reading) where
  -- before the cones: the number is none of theirs
  before : (n : ℕ) → ¬ (n ≡ 5) → ¬ (n ≡ 6) → ¬ (n ≡ 8) → RefusedCone white rs n 0
  before n not-5 not-6 not-8 =
      record {
        of_5 = λ e. absurd (not-5 e);
        of_6 = λ e. absurd (not-6 e);
        of_8 = λ e. absurd (not-8 e);
        of_other = λ o. refl;
      }

  module _ {w : White} (e : white_numbered white ≡ Some w) where
    one_of_three :
        {n : Refusal} {i : ℕ} → (n ≡ Why.NotANumber) ⊎ ((n ≡ Why.OutOfRange) ⊎ (n ≡ Why.Beyond256)) →
        OneOf (number_of_refusal n) (0 ∷ 2 ∷ 3 ∷ 11 ∷ []) → i ≡ 0
    one_of_three (inl h) o = absurd (true≢false (sym o ∙ ap (λ (k : Refusal). is_one_of (number_of_refusal k) (0 ∷ 2 ∷ 3 ∷ 11 ∷ [])) h))
    one_of_three (inr (inl h)) o = absurd (true≢false (sym o ∙ ap (λ (k : Refusal). is_one_of (number_of_refusal k) (0 ∷ 2 ∷ 3 ∷ 11 ∷ [])) h))
    one_of_three (inr (inr h)) o = absurd (true≢false (sym o ∙ ap (λ (k : Refusal). is_one_of (number_of_refusal k) (0 ∷ 2 ∷ 3 ∷ 11 ∷ [])) h))

    of_cones : (t : Turns GridColour) → cones_in w rs ≡ t → RefusedCone white rs (number_of t) (index_of t)
    of_cones (whole cs) g =
        record {
          of_5 = λ h. absurd (omega arith);
          of_6 = λ h. absurd (omega arith);
          of_8 = λ h. absurd (omega arith);
          of_other = λ o. refl;
        }
    of_cones (refused n i) g =
        record {
          of_5 = λ h. (w, e, (cone-rows w rs i).is_5.0 (g ∙ ap (λ (m : Refusal). refused m i) (number-only n Why.NotANumber h)));
          of_6 = λ h. (w, e, (cone-rows w rs i).is_6.0 (g ∙ ap (λ (m : Refusal). refused m i) (number-only n Why.OutOfRange h)));
          of_8 = λ h. (w, e, (cone-rows w rs i).is_8.0 (g ∙ ap (λ (m : Refusal). refused m i) (number-only n Why.Beyond256 h)));
          of_other = one_of_three (cone_refused_by w rs g);
        }

  -- THE CONE IS THE FIRST REFUSED ONE, OR 0
  pub refused-cone :
      (shaped : Bool) (l c : ℕ) →
      RefusedCone white rs (number_of (delivered shaped white l c rs)) (index_of (delivered shaped white l c rs))
  refused-cone shaped l c = go (delivered shaped white l c rs) (comes shaped white l c rs)
    where
      go : (t : Turns GridColour) → Comes shaped white l c rs t → RefusedCone white rs (number_of t) (index_of t)
      go t (wrong-count h) = before 11 (λ q. omega arith) (λ q. omega arith) (λ q. omega arith)
      go t (no_white_lem h e) = before 2 (λ q. omega arith) (λ q. omega arith) (λ q. omega arith)
      go t (wrong-factor h w e f) = before 3 (λ q. omega arith) (λ q. omega arith) (λ q. omega arith)
      go t (cones h w e f) = of_cones e (cones_in w rs) refl
