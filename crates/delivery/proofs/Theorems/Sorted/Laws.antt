-- What callers use of a sort: each way out of the code, what was tested before the cones, that its number is that of
-- the one order, and that a contract admits one outcome. Assumes nothing.
use Rattle.std.specs.Prelude.{◌≡◌, Bool, not, ◌&&◌, List, [], ◌∷◌, Float, length}
use Rattle.std.specs.Prelude.{Option, Some, None, Result, Ok, Err, ok_or}
use Rattle.std.proofs.Math.Path.{refl}
use Rattle.std.proofs.Common.{sym, ap, ◌∙◌, true≢false, arith}
use Rattle.std.proofs.Math.Bool.{true, false, cond}
use Rattle.std.proofs.lemmas.Option.{cond_some}
use Prim.Native.Nat.{ℕ}
use borrow.Author.Tests.{leb-true, le-leb}
use Rattle.std.proofs.Math.Dec.{leb}
use Rattle.colour.proofs.Theorems.Conversion.Laws.{both_true}
use Rattle.colour.specs.Refusal.{number_of_refusal, refusal_numbered}
use Rattle.colour.specs.White.{white_numbered}
use Rattle.colour.specs.declared.conversion.GridColour.{GridColour}
use Rattle.colour.specs.Placed.{Reading}
use Rattle.colour.specs.declared.refusal.Refusal.{Refusal}
use Rattle.colour.specs.declared.refusal.Refusal.TheVariants as Why
use Rattle.colour.specs.declared.white.White.{White}
use Rattle.sheet.specs.Settings.{within, is_factor}
use Rattle.sheet.proofs.Theorems.Settings.Laws.{within_true, within_in, factor_of, of_factor}
use Rattle.cones.specs.Zip.{is_even, even_of_test, test_of_even}
use Rattle.cones.specs.InTurn.{Turns, whole, refused, number_of, index_of}
use Rattle.cones.specs.Cones.{readings_of, cones_in}
use Rattle.cones.proofs.Theorems.Cones.Laws.{readings_length}
use Rattle.colour.specs.declared.placed.Space.{Space}
use Rattle.standard.specs.Acceptance.{no_white}
use Rattle.standard.specs.Refusals.{number_at, first_of, refusal}
use Rattle.standard.proofs.Theorems.Refusals.Laws.{first_zero}
use Rattle.delivery.specs.declared.sorted.Sorted.{Sorted}
use Rattle.delivery.specs.Sorted.{is_shaped, Shaped, are_factors, cones_numbered, sort_faults, refused_before}
use Rattle.delivery.specs.Sorted.{delivered, refused_with}
use Rattle.delivery.specs.Sorted.{sorted_of, answer_of, left_in, Gives, Sorts, CallIn, ReadIn, SortsIn}

-- ---- what is tested before the cones: each test passes exactly where its facts hold

module _ (xs ys zs : List Float) (room : ℕ) where
  pub shaped_of_test : is_shaped xs ys zs room ≡ true → Shaped xs ys zs room
  unfolding is_shaped
  shaped_of_test h =
      let (s, even) = both_true (within 2 256 (length xs) && leb (length xs) room) (is_even xs ys zs) h in
      let (t, enough) = both_true (within 2 256 (length xs)) (leb (length xs) room) s in
      let (some, few) = within_true 2 256 (length xs) t in
      record { some = some; few = few; enough = leb-true _ _ enough; even = even_of_test xs ys zs even }

  pub test_of_shaped : Shaped xs ys zs room → is_shaped xs ys zs room ≡ true
  unfolding is_shaped
  test_of_shaped h =
      rw (
        within_in 2 256 (length xs) h.some h.few,
        le-leb _ _ h.enough,
        test_of_even xs ys zs h.even,
      )

-- cones that are none fail their test
test_of_none : (b : Bool) (rs : List Reading) → cond b (Some rs) None ≡ None → b ≡ false
test_of_none true rs e = let no : ◌≡◌ {A = ℕ} 0 1 = cc in absurd (omega arith)
test_of_none false rs e = refl

-- cones of one length, counted, are those of a call that has the shape for it
module _ (k : Space) (xs ys zs : List Float) (room : ℕ) {s : Option (List Reading)}
    (es : s ≡ cond (is_even xs ys zs) (Some (readings_of k xs ys zs)) None) where
  abbrev as_shaped : Option (List Reading)
  as_shaped = cond (is_shaped xs ys zs room) (Some (readings_of k xs ys zs)) None

  counted : is_even xs ys zs ≡ true → (within 2 256 (length xs) && leb (length xs) room) ≡ is_shaped xs ys zs room
  unfolding is_shaped
  counted h = rw h (go (within 2 256 (length xs) && leb (length xs) room))
    where
      go : (p : Bool) → p ≡ p && true
      go true = refl
      go false = refl

  pub shaped_none : s ≡ None → None ≡ as_shaped
  unfolding is_shaped
  shaped_none h = rw (test_of_none (is_even xs ys zs) (readings_of k xs ys zs) (sym es ∙ h)) (go _)
    where
      go : (p : Bool) → None ≡ cond (p && false) (Some (readings_of k xs ys zs)) None
      go true = refl
      go false = refl

  pub shaped_some :
      {cs : List Reading} {n : ℕ} (b : Bool) → s ≡ Some cs → n ≡ length cs → b ≡ (within 2 256 n && leb n room) →
      cond b (Some cs) None ≡ as_shaped
  shaped_some {cs = cs} {n = n} b h en eb =
      let (even, same) = cond_some (is_even xs ys zs) (readings_of k xs ys zs) cs (sym es ∙ h) in
      let count : n ≡ length xs =
      en ∙ ap length (sym same) ∙ readings_length k xs ys zs (even_of_test xs ys zs even) in
      rw (eb, count, same) (ap (λ (p : Bool). cond p (Some cs) None) (counted even))

module _ (l c : ℕ) where
  pub factors_of_test : are_factors l c ≡ true → (is_factor l ≡ true) × (is_factor c ≡ true)
  unfolding are_factors
  factors_of_test h = both_true (is_factor l) (is_factor c) h

  pub test_of_factors : is_factor l ≡ true → is_factor c ≡ true → are_factors l c ≡ true
  unfolding are_factors
  test_of_factors p q = rw (p, q)

pub call_in :
    {l c : ℕ} (xs ys zs de : List Float) → is_shaped xs ys zs (length de) ≡ true → are_factors l c ≡ true →
    CallIn l c xs ys zs de
call_in {l} {c} xs ys zs de shaped factors =
    let (p, q) = factors_of_test l c factors in
    record { shape = shaped_of_test xs ys zs (length de) shaped; lightness = factor_of p; chroma = factor_of q }

-- ---- each way before the cones, in the one order

module _ (white l c : ℕ) (rs : List Reading) where
  not_shaped : delivered false white l c rs ≡ refused Why.Count 0
  unfolding delivered refusal number_at first_of refusal_numbered
  not_shaped = refl

  no_such_white : white_numbered white ≡ None → delivered true white l c rs ≡ refused Why.White 0
  unfolding delivered refusal number_at first_of refusal_numbered
  no_such_white h = rw h

  module _ {is : White} (h : white_numbered white ≡ Some is) where
    factor_out : are_factors l c ≡ false → delivered true white l c rs ≡ refused Why.Factor 0
    unfolding delivered refusal number_at first_of refusal_numbered are_factors
    factor_out f = rw h (go (is_factor l) (is_factor c) f)
      where
        go :
            (p q : Bool) → p && q ≡ false →
            (let n : ℕ = first_of (0 ∷ cond (not p) 3 0 ∷ cond (not q) 3 0 ∷ []) in
            refused_before (refusal_numbered n) (cones_in is rs)) ≡ refused Why.Factor 0
        go false q e = refl
        go true false e = refl
        go true true e = absurd (true≢false e)

    -- with none of these each cone in turn
    in_turn_lem : are_factors l c ≡ true → delivered true white l c rs ≡ cones_in is rs
    unfolding delivered refusal number_at first_of refusal_numbered are_factors
    in_turn_lem f =
        let (p, q) = both_true (is_factor l) (is_factor c) f in
        rw (h, p, q)

-- so of every call that is in order
pub in_turn_of :
    {l c : ℕ} {xs ys zs de : List Float} (white : ℕ) (rs : List Reading) {w : White} → CallIn l c xs ys zs de →
    white_numbered white ≡ Some w → delivered (is_shaped xs ys zs (length de)) white l c rs ≡ cones_in w rs
in_turn_of {l} {c} {xs} {ys} {zs} {de} white rs call e =
    ap (λ (b : Bool). delivered b white l c rs) (test_of_shaped xs ys zs (length de) call.shape)
    ∙ in_turn_lem white l c rs e (test_of_factors l c (of_factor call.lightness) (of_factor call.chroma))

-- what is refused before the cones, or the cones themselves
pub data Comes (shaped : Bool) (white l c : ℕ) (rs : List Reading) : Turns GridColour → Type 0 where
  wrong-count : shaped ≡ false → Comes shaped white l c rs (refused Why.Count 0)
  no_white_lem : shaped ≡ true → white_numbered white ≡ None → Comes shaped white l c rs (refused Why.White 0)
  wrong-factor :
      shaped ≡ true → (w : White) → white_numbered white ≡ Some w → are_factors l c ≡ false →
      Comes shaped white l c rs (refused Why.Factor 0)
  cones :
      shaped ≡ true → (w : White) → white_numbered white ≡ Some w → are_factors l c ≡ true →
      Comes shaped white l c rs (cones_in w rs)

pub comes : (shaped : Bool) (white l c : ℕ) (rs : List Reading) →
    Comes shaped white l c rs (delivered shaped white l c rs)
comes false white l c rs = rw (not_shaped white l c rs) (wrong-count refl)
comes true white l c rs = go (white_numbered white) refl (are_factors l c) refl
  where
    go :
        (w : Option White) → white_numbered white ≡ w → (b : Bool) → are_factors l c ≡ b →
        Comes true white l c rs (delivered true white l c rs)
    go None e b f = rw (no_such_white white l c rs e) (no_white_lem refl e)
    go (Some w) e false f = rw (factor_out white l c rs e f) (wrong-factor refl w e f)
    go (Some w) e true f = rw (in_turn_lem white l c rs e f) (cones refl w e f)

-- THE NUMBER IS THAT OF THE ONE ORDER
pub sort-number :
    (shaped : Bool) (white l c : ℕ) (rs : List Reading) →
    number_of (delivered shaped white l c rs) ≡ refusal (sort_faults shaped white l c rs)
unfolding delivered sort_faults refusal number_at first_of refusal_numbered
sort-number shaped white l c rs = go shaped (white_numbered white) (is_factor l) (is_factor c)
  where
    go :
        (b : Bool) (w : Option White) (p q : Bool) →
        (let n : ℕ = first_of (cond (not b) 11 0 ∷ cond (no_white w) 2 0 ∷ cond (not p) 3 0 ∷ cond (not q) 3 0 ∷ []) in
        number_of (refused_before (refusal_numbered n) (cones_numbered w rs)))
        ≡ first_of
        (cond (not b) 11 0 ∷ cond (no_white w) 2 0 ∷ cond (not p) 3 0 ∷ cond (not q) 3 0 ∷ number_of (cones_numbered w rs)
        ∷ [])
    go false w p q = refl
    go true None p q = refl
    go true (Some w) false q = refl
    go true (Some w) true false = refl
    go true (Some w) true true = sym (first_zero (number_of (cones_in w rs)))

-- ---- the same of the whole call

-- a white that is taken by its number is that number's, and a number is refused with 2 alone
white_of :
    {o : Option White} {r : Result White Refusal} {w : White} → r ≡ ok_or o Why.White → r ≡ Ok w → o ≡ Some w
white_of {o = Some v} {w = w} e h = let same : v ≡ w = cc in ap Some same
white_of {o = None} e h = let no : ◌≡◌ {A = ℕ} 0 1 = cc in absurd (omega arith)

no_white_of :
    {o : Option White} {r : Result White Refusal} {f : Refusal} → r ≡ ok_or o Why.White → r ≡ Err f →
    (o ≡ None) × (f ≡ Why.White)
no_white_of {o = Some v} e h = let no : ◌≡◌ {A = ℕ} 0 1 = cc in absurd (omega arith)
no_white_of {o = None} e h = (refl, cc)

gives_by :
    {l c : ℕ} {t u : Turns GridColour} {de left : List Float} {r : Sorted} → t ≡ u → Gives l c u de r left →
    Gives l c t de r left
gives_by e g = record { answer = rw e g.answer; left = rw e g.left }

gives_refusal :
    (l c : ℕ) (f : Refusal) (i : ℕ) {de : List Float} {r : Sorted} → r ≡ refused_with (number_of_refusal f) i →
    Gives l c (refused f i) de r de
gives_refusal l c f i e = record { answer = e; left = refl }

-- what a call in order has of its slices, it has of their readings
pub read_of_call :
    (k : Space) {l c : ℕ} {xs ys zs de : List Float} → CallIn l c xs ys zs de → ReadIn l c (readings_of k xs ys zs) de
read_of_call k {xs = xs} {ys = ys} {zs = zs} call =
    let count = readings_length k xs ys zs call.shape.even in
    record {
      some = omega (arith, count, call.shape.some);
      few = omega (arith, count, call.shape.few);
      enough = omega (arith, count, call.shape.enough);
      lightness = call.lightness;
      chroma = call.chroma;
    }

module _ (k : Space) (white l c : ℕ) (xs ys zs de : List Float) where
  abbrev rs : List Reading
  rs = readings_of k xs ys zs

  abbrev room : ℕ
  room = length de

  -- 11
  pub sorts_misshapen :
      {r : Sorted} → is_shaped xs ys zs room ≡ false → r ≡ refused_with 11 0 → Sorts k white l c xs ys zs de r de
  sorts_misshapen h e =
      gives_by (ap (λ (b : Bool). delivered b white l c rs) h ∙ not_shaped white l c rs) (gives_refusal l c Why.Count 0 e)

  module _ (h : is_shaped xs ys zs room ≡ true) where
    shaped : delivered (is_shaped xs ys zs room) white l c rs ≡ delivered true white l c rs
    shaped = ap (λ (b : Bool). delivered b white l c rs) h

    module _ {w : Option White} (ew : w ≡ white_numbered white) where
      -- 2
      pub sorts_no_white : {r : Sorted} → w ≡ None → r ≡ refused_with 2 0 → Sorts k white l c xs ys zs de r de
      sorts_no_white g e = gives_by (shaped ∙ no_such_white white l c rs (sym ew ∙ g)) (gives_refusal l c Why.White 0 e)

      module _ {is : White} (g : w ≡ Some is) where
        -- 3
        pub sorts_factor_out :
            {r : Sorted} → are_factors l c ≡ false → r ≡ refused_with 3 0 → Sorts k white l c xs ys zs de r de
        sorts_factor_out f e =
            gives_by (shaped ∙ factor_out white l c rs (sym ew ∙ g) f) (gives_refusal l c Why.Factor 0 e)

        -- each cone in turn
        pub sorts_in_turn :
            {r : Sorted} {left : List Float} → are_factors l c ≡ true → SortsIn is l c rs de r left →
            Sorts k white l c xs ys zs de r left
        sorts_in_turn f gives = gives_by (shaped ∙ in_turn_lem white l c rs (sym ew ∙ g) f) gives

  -- ---- the same by what the code has: the cones s if they have the shape, and the white w or its refusal

  module _ {s : Option (List Reading)} (es : s ≡ cond (is_shaped xs ys zs room) (Some rs) None) where
    pub none_misshapen : {r : Sorted} → s ≡ None → r ≡ refused_with 11 0 → Sorts k white l c xs ys zs de r de
    none_misshapen h e = sorts_misshapen (test_of_none (is_shaped xs ys zs room) rs (sym es ∙ h)) e

    module _ {cs : List Reading} (h : s ≡ Some cs) where
      is_some : (is_shaped xs ys zs room ≡ true) × (rs ≡ cs)
      is_some = cond_some (is_shaped xs ys zs room) rs cs (sym es ∙ h)

      -- what is tested of them
      pub read_in : are_factors l c ≡ true → ReadIn l c cs de
      read_in f = rw (← is_some.1) (read_of_call k (call_in xs ys zs de is_some.0 f))

      module _ {w : Result White Refusal} (ew : w ≡ ok_or (white_numbered white) Why.White) where
        pub err_no_white :
            {f : Refusal} {r : Sorted} → w ≡ Err f → r ≡ refused_with (number_of_refusal f) 0 →
            Sorts k white l c xs ys zs de r de
        err_no_white g e =
            let (none, is) = no_white_of ew g in
            sorts_no_white is_some.0 refl none (e ∙ ap (λ (x : Refusal). refused_with (number_of_refusal x) 0) is)

        module _ {is : White} (g : w ≡ Ok is) where
          pub ok_factor_out :
              {r : Sorted} → are_factors l c ≡ false → r ≡ refused_with 3 0 → Sorts k white l c xs ys zs de r de
          ok_factor_out f e = sorts_factor_out is_some.0 refl (white_of ew g) f e

          pub ok_in_turn :
              {r : Sorted} {left : List Float} → are_factors l c ≡ true → SortsIn is l c cs de r left →
              Sorts k white l c xs ys zs de r left
          ok_in_turn f gives = sorts_in_turn is_some.0 refl (white_of ew g) f (rw is_some.1 gives)

-- ---- what is handed back has the refusal's number and cone, and on a refusal nothing else

pub answer-number : (l c : ℕ) (t : Turns GridColour) → (answer_of l c t).number ≡ number_of t
unfolding sorted_of
answer-number l c (whole cs) = refl
answer-number l c (refused f i) = refl

pub answer-cone : (l c : ℕ) (t : Turns GridColour) → (answer_of l c t).cone ≡ index_of t
unfolding sorted_of
answer-cone l c (whole cs) = refl
answer-cone l c (refused f i) = refl

pub refusal-kept :
    (l c : ℕ) (t : Turns GridColour) (de : List Float) → ¬ (number_of t ≡ 0) →
    (answer_of l c t ≡ refused_with (number_of t) (index_of t)) × (left_in l c de t ≡ de)
refusal-kept l c (whole cs) de some = absurd (some refl)
refusal-kept l c (refused f i) de some = (refl, refl)

-- ---- any two outcomes that a contract admits are equal: what is handed back, and the entries of the lent slice

abbrev pub AdmitsOne : (Sorted → List Float → Type 0) → Type 0
AdmitsOne P = (r s : Sorted) (us vs : List Float) → P r us → P s vs → (r ≡ s) × (us ≡ vs)

pub sorts_one : (k : Space) (white l c : ℕ) (xs ys zs de : List Float) → AdmitsOne (Sorts k white l c xs ys zs de)
sorts_one k white l c xs ys zs de r s us vs p q = (p.answer ∙ sym q.answer, p.left ∙ sym q.left)
