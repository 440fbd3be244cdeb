-- What callers use of acceptance: each way out of it, its number, and that what is accepted is valid, and every valid
-- standard accepted. Assumes nothing.
use Rattle.std.proofs.Math.Path.{◌≡◌, refl, sym, ap}
use Rattle.std.proofs.Common.{◌∙◌, arith}
use Rattle.std.specs.Prelude.{Bool, List, [], ◌∷◌, map, ℕ, Ok, Err}
use Rattle.std.proofs.Math.Bool.{true, false}
use Rattle.colour.specs.Refusal.{number_of_refusal, refusal_of, refusal_numbered}
use Rattle.colour.specs.declared.refusal.Refusal.{Refusal}
use Rattle.colour.specs.declared.refusal.Refusal.TheVariants as Why
use Rattle.colour.proofs.Theorems.Refusal.{numbered-number, number-some}
use Rattle.colour.specs.declared.conversion.GridColour.{GridColour}
use Rattle.colour.specs.Placed.{Placed}
use Rattle.sheet.specs.Settings.{is_factor, is_tolerance}
use Rattle.sheet.proofs.Theorems.Settings.Laws.{factor_of, of_factor, tolerance_of, of_tolerance}
use Rattle.sheet.specs.declared.settings.Settings.{Settings}
use Rattle.standard.specs.declared.accept.Standard.{Standard}
use Rattle.standard.specs.Refusals.{at_l, at_c, at_tolerance, number_at, first, first_of, refusal}
use Rattle.standard.proofs.Theorems.Refusals.Laws.{first_zero, first_some, first_of-append}
use Rattle.standard.specs.Acceptance.{range_faults, accept_faults, acceptance, Valid, ValidIn, PlacedOn}

-- ---- the ranges' own refusal: each way out

module _ (l c tolerance : ℕ) where
  pub l_out : is_factor l ≡ false → refusal (range_faults l c tolerance) ≡ 3
  unfolding refusal range_faults number_at first_of
  l_out h = rw h

  module _ (l_in : is_factor l ≡ true) where
    pub c_out : is_factor c ≡ false → refusal (range_faults l c tolerance) ≡ 3
    unfolding refusal range_faults number_at first_of
    c_out h = rw (l_in, h)

    module _ (c_in : is_factor c ≡ true) where
      pub tolerance_out : is_tolerance tolerance ≡ false → refusal (range_faults l c tolerance) ≡ 4
      unfolding refusal range_faults number_at first_of
      tolerance_out h = rw (l_in, c_in, h)

      pub all_in : is_tolerance tolerance ≡ true → refusal (range_faults l c tolerance) ≡ 0
      unfolding refusal range_faults number_at first_of
      all_in h = rw (l_in, c_in, h)

-- the reference's comes after it
pub accept-refusal :
    (s : Settings) (p : Placed) → refusal (accept_faults s p)
    ≡ first (refusal (range_faults s.l s.c s.tolerance)) (refusal_of p)
unfolding refusal accept_faults range_faults number_at first_of
accept-refusal s p =
    let fs : List ℕ = map (number_at (range_faults s.l s.c s.tolerance)) (at_l ∷ at_c ∷ at_tolerance ∷ []) in
    first_of-append fs (refusal_of p ∷ []) ∙ ap (first (first_of fs)) (first_zero (refusal_of p))

-- ---- acceptance: each way out

module _ (s : Settings) where
  pub settings-refused :
      (p : Placed) (e : Refusal) → number_of_refusal e ≡ refusal (range_faults s.l s.c s.tolerance) →
      Err e ≡ acceptance s p
  unfolding acceptance
  settings-refused p e h =
      let is : refusal (accept_faults s p) ≡ number_of_refusal e =
      accept-refusal s p ∙ rw (← h) (first_some (refusal_of p) (number-some e)) in
      rw (is, numbered-number e)

  module _ (in_range : refusal (range_faults s.l s.c s.tolerance) ≡ 0) where
    pub reference-refused : (e : Refusal) → Err e ≡ acceptance s (Err e)
    unfolding acceptance
    reference-refused e = rw (accept-refusal s (Err e), in_range, numbered-number e)

    pub is_accepted : (c : GridColour) → Ok (record { settings = s; colour = c }) ≡ acceptance s (Ok c)
    unfolding acceptance refusal_numbered
    is_accepted c = rw (accept-refusal s (Ok c), in_range)

-- ---- what is accepted

-- one of the numbers refuses, or all lie in their ranges
data Ranged (l c tolerance : ℕ) : Type 0 where
  out : (e : Refusal) → number_of_refusal e ≡ refusal (range_faults l c tolerance) → Ranged l c tolerance
  within : refusal (range_faults l c tolerance) ≡ 0 → Ranged l c tolerance

ranged : (l c tolerance : ℕ) → Ranged l c tolerance
ranged l c tolerance = go (is_factor l) refl (is_factor c) refl (is_tolerance tolerance) refl
  where
    go :
        (p : Bool) → is_factor l ≡ p → (q : Bool) → is_factor c ≡ q → (r : Bool) → is_tolerance tolerance ≡ r →
        Ranged l c tolerance
    go false hl q hc r ht = out Why.Factor (sym (l_out l c tolerance hl))
    go true hl false hc r ht = out Why.Factor (sym (c_out l c tolerance hl hc))
    go true hl true hc false ht = out Why.Tolerance (sym (tolerance_out l c tolerance hl hc ht))
    go true hl true hc true ht = within (all_in l c tolerance hl hc ht)

-- q is of these settings, and of a reference that is placed
pub record Made (s : Settings) (p : Placed) (q : Standard) : Type 0 where
  pub in_range : refusal (range_faults s.l s.c s.tolerance) ≡ 0
  pub settings : q.settings ≡ s
  pub placed : p ≡ Ok q.colour

module _ (s : Settings) where
  pub accepted_made : (p : Placed) {q : Standard} → acceptance s p ≡ Ok q → Made s p q
  accepted_made p {q} = go p (ranged s.l s.c s.tolerance)
    where
      go : (p : Placed) → Ranged s.l s.c s.tolerance → acceptance s p ≡ Ok q → Made s p q
      go p (out e h) g =
          let is = settings-refused s p e h in let no : ◌≡◌ {A = ℕ} 0 1 = cc in absurd (omega arith)
      go (Err e) (within h) g =
          let is = reference-refused s h e in let no : ◌≡◌ {A = ℕ} 0 1 = cc in absurd (omega arith)
      go (Ok c) (within h) g =
          let is = is_accepted s h c in
          let same : ◌≡◌ {A = Standard} (record { settings = s; colour = c }) q = cc in
          record {
            in_range = h;
            settings = sym (ap (λ (x : Standard). x.settings) same);
            placed = ap (λ (x : Standard). Ok x.colour) same;
          }

-- numbers with no refusal lie in their ranges
ranges_in :
    (l c tolerance : ℕ) → refusal (range_faults l c tolerance) ≡ 0 → (is_factor l ≡ true) × (is_factor c ≡ true)
    × (is_tolerance tolerance ≡ true)
ranges_in l c tolerance none = go (is_factor l) refl (is_factor c) refl (is_tolerance tolerance) refl
  where
    go :
        (p : Bool) → is_factor l ≡ p → (q : Bool) → is_factor c ≡ q → (r : Bool) → is_tolerance tolerance ≡ r →
        (is_factor l ≡ true) × (is_factor c ≡ true) × (is_tolerance tolerance ≡ true)
    go false hl q hc r ht = absurd (omega (arith, l_out l c tolerance hl, none))
    go true hl false hc r ht = absurd (omega (arith, c_out l c tolerance hl hc, none))
    go true hl true hc false ht = absurd (omega (arith, tolerance_out l c tolerance hl hc ht, none))
    go true hl true hc true ht = (hl, hc, ht)

-- ONLY A VALID STANDARD IS ACCEPTED
pub accepted-valid : (s : Settings) (p : Placed) → PlacedOn p → ValidIn (acceptance s p)
accepted-valid s p on q e =
    let from = accepted_made s p e in
    let (l, c, t) = ranges_in s.l s.c s.tolerance from.in_range in
    record {
      l = rw from.settings (factor_of l);
      c = rw from.settings (factor_of c);
      tolerance = rw from.settings (tolerance_of t);
      colour = on q.colour from.placed;
    }

-- AND EVERY VALID STANDARD IS
pub valid-accepted : (q : Standard) → Valid q → acceptance q.settings (Ok q.colour) ≡ Ok q
valid-accepted q v =
    sym (is_accepted q.settings (all_in _ _ _ (of_factor v.l) (of_factor v.c) (of_tolerance v.tolerance))
    q.colour)

-- its number is that of its first fault
pub accept-number : (s : Settings) (p : Placed) → refusal_of (acceptance s p) ≡ refusal (accept_faults s p)
accept-number s p = go p (ranged s.l s.c s.tolerance)
  where
    go : (p : Placed) → Ranged s.l s.c s.tolerance → refusal_of (acceptance s p) ≡ refusal (accept_faults s p)
    go p (out e h) =
        ap refusal_of (sym (settings-refused s p e h))
        ∙ sym (accept-refusal s p ∙ rw (← h) (first_some (refusal_of p) (number-some e)))
    go (Err e) (within h) = ap refusal_of (sym (reference-refused s h e)) ∙ sym (accept-refusal s (Err e) ∙ rw h)
    go (Ok c) (within h) = ap refusal_of (sym (is_accepted s h c)) ∙ sym (accept-refusal s (Ok c) ∙ rw h)

-- a refusal has a number
pub refused_some : (s : Settings) (p : Placed) {e : Refusal} → acceptance s p ≡ Err e → number_of_refusal e ≡ 0 → ⊥
refused_some s p {e} h z = number-some e z
