-- Numbers become settings, and settings and a reference a standard, unless one of their rules holds: the first of them
-- refuses. Assumes nothing.
use Rattle.std.specs.Prelude.{◌≡◌, refl, Bool, true, false, cond, ℕ, ◌≤◌, leb, eqb, Result, Ok, Err, Option, Some, None}
use Rattle.std.proofs.Common.{sym, subst, ◌∙◌, true≢false, inl, inr, ⊎_elim, not-le_of_lt, arith, leb-true, leb-false, eqb-true}
use Rattle.std.proofs.lemmas.Bool.{eqb-false}
use Rattle.colour.specs.White.{white_numbered}
use Rattle.colour.specs.declared.conversion.GridColour.{GridColour}
use Rattle.colour.specs.Placed.{Placed}
use Rattle.colour.specs.declared.white.White.{White}
use Rattle.colour.specs.declared.white.White.TheVariants.{D65Ten, D65Two, CTen, CTwo}
use Rattle.sheet.specs.Settings.{formula_numbered, within, is_factor, is_tolerance}
use Rattle.sheet.proofs.Theorems.Settings.Laws.{within_in, within_true}
use Rattle.sheet.specs.declared.formula.Formula.{Formula}
use Rattle.sheet.specs.declared.formula.Formula.TheVariants.{CIELAB, CIE94, CMC}
use Rattle.sheet.specs.declared.settings.Settings.{Settings}
use Rattle.colour.specs.Refusal.{number_of_refusal}
use Rattle.standard.specs.Refusals.{refusal}
use Rattle.standard.specs.Acceptance.{named, settings_of, range_faults, acceptance, Acceptance}
use Rattle.standard.proofs.Theorems.Acceptance.Laws.{l_out, c_out, tolerance_out as tolerance-off, all_in}
use Rattle.standard.proofs.Theorems.Acceptance.Laws.{settings-refused, reference-refused, is_accepted}
use Rattle.colour.specs.declared.refusal.Refusal.{Refusal}
use Rattle.station.specs.Record.Exactly.{Outside, NoFormula, NoWhite, FactorsOut, ToleranceOut}
use Rattle.colour.specs.declared.refusal.Refusal.TheVariants as Why

-- ---- from low to high

inside : {low high n : ℕ} → low ≤ n → n ≤ high → ¬ (Outside low high n)
inside l h (inl o) = not-le_of_lt o l
inside l h (inr o) = not-le_of_lt o h

is_inside : {low high n k : ℕ} → n ≡ k → low ≤ k → k ≤ high → ¬ (Outside low high n)
is_inside e l h = inside (omega arith) (omega arith)

-- what lies nowhere within lies outside
outside : (low high n : ℕ) → (low ≤ n → n ≤ high → ⊥) → Outside low high n
outside low high n nowhere = go (leb low n) refl (leb n high) refl
  where
    go : (p : Bool) → leb low n ≡ p → (q : Bool) → leb n high ≡ q → Outside low high n
    go false hp q hq = inl (leb-false low n hp)
    go true hp false hq = inr (leb-false n high hq)
    go true hp true hq = absurd (nowhere (leb-true low n hp) (leb-true n high hq))

module _ (low high n : ℕ) where
  pub inside_of : within low high n ≡ true → ¬ (Outside low high n)
  inside_of e = let (l, h) = within_true low high n e in inside l h

  pub outside_of : within low high n ≡ false → Outside low high n
  outside_of e = outside low high n (λ l h. true≢false (sym (within_in low high n l h) ∙ e))

-- ---- numbers become settings, unless one names nothing

data Formulas (n : ℕ) : Option Formula → Type 0 where
  formula_none : NoFormula n → Formulas n None
  formula_one : ¬ (NoFormula n) → (f : Formula) → Formulas n (Some f)

formulas : (n : ℕ) → Formulas n (formula_numbered n)
unfolding formula_numbered
formulas n = go (eqb n 1) refl (eqb n 2) refl (eqb n 3) refl
  where
    go :
        (p : Bool) → eqb n 1 ≡ p → (q : Bool) → eqb n 2 ≡ q → (r : Bool) → eqb n 3 ≡ r →
        Formulas n (cond p (Some CIELAB) (cond q (Some CIE94) (cond r (Some CMC) None)))
    go true hp q hq r hr = formula_one (is_inside (eqb-true n 1 hp) (omega arith) (omega arith)) CIELAB
    go false hp true hq r hr = formula_one (is_inside (eqb-true n 2 hq) (omega arith) (omega arith)) CIE94
    go false hp false hq true hr = formula_one (is_inside (eqb-true n 3 hr) (omega arith) (omega arith)) CMC
    go false hp false hq false hr =
        formula_none (outside 1 3 n (λ l h. omega (arith, eqb-false n 1 hp, eqb-false n 2 hq, eqb-false n 3 hr)))

pub data Whites (n : ℕ) : Option White → Type 0 where
  white_none : NoWhite n → Whites n None
  white_one : ¬ (NoWhite n) → (w : White) → Whites n (Some w)

pub whites : (n : ℕ) → Whites n (white_numbered n)
unfolding white_numbered
whites n = go (eqb n 1) refl (eqb n 2) refl (eqb n 3) refl (eqb n 4) refl
  where
    go :
        (p : Bool) → eqb n 1 ≡ p → (q : Bool) → eqb n 2 ≡ q → (r : Bool) → eqb n 3 ≡ r → (s : Bool) → eqb n 4 ≡ s →
        Whites n (cond p (Some D65Ten) (cond q (Some D65Two) (cond r (Some CTen) (cond s (Some CTwo) None))))
    go true hp q hq r hr s hs = white_one (is_inside (eqb-true n 1 hp) (omega arith) (omega arith)) D65Ten
    go false hp true hq r hr s hs = white_one (is_inside (eqb-true n 2 hq) (omega arith) (omega arith)) D65Two
    go false hp false hq true hr s hs = white_one (is_inside (eqb-true n 3 hr) (omega arith) (omega arith)) CTen
    go false hp false hq false hr true hs = white_one (is_inside (eqb-true n 4 hs) (omega arith) (omega arith)) CTwo
    go false hp false hq false hr false hs =
        white_none
        (outside 1 4 n (λ l h. omega (arith, eqb-false n 1 hp, eqb-false n 2 hq, eqb-false n 3 hr, eqb-false n 4 hs)))

pub data Named (formula white l c tolerance : ℕ) : Result Settings Refusal → Type 0 where
  no_formula_lem : NoFormula formula → Named formula white l c tolerance (Err Why.Formula)
  no_white_lem : ¬ (NoFormula formula) → NoWhite white → Named formula white l c tolerance (Err Why.White)
  are :
      ¬ (NoFormula formula) → ¬ (NoWhite white) → (f : Formula) (w : White) → white_numbered white ≡ Some w →
      Named formula white l c tolerance (Ok (record { formula = f; white = w; l = l; c = c; tolerance = tolerance }))

pub names :
    (formula white l c tolerance : ℕ) → Named formula white l c tolerance (settings_of formula white l c tolerance)
unfolding settings_of
names formula white l c tolerance = go _ (formulas formula) _ (whites white) refl
  where
    go :
        (f : Option Formula) → Formulas formula f → (w : Option White) → Whites white w → white_numbered white ≡ w →
        Named formula white l c tolerance (named f w l c tolerance)
    go f (formula_none h) w v e = no_formula_lem h
    go f (formula_one h k) w (white_none g) e = no_white_lem h g
    go f (formula_one h k) w (white_one g m) e = are h g k m e

-- ---- settings and a reference are accepted, unless one is outside

pub data Accepts (s : Settings) (p : Placed) : Acceptance → Type 0 where
  factors_out : FactorsOut s.l s.c → Accepts s p (Err Why.Factor)
  tolerance_out : ¬ (FactorsOut s.l s.c) → ToleranceOut s.tolerance → Accepts s p (Err Why.Tolerance)
  reference_out :
      ¬ (FactorsOut s.l s.c) → ¬ (ToleranceOut s.tolerance) → (e : Refusal) → p ≡ Err e →
      Accepts s p (Err e)
  accepts :
      ¬ (FactorsOut s.l s.c) → ¬ (ToleranceOut s.tolerance) → (c : GridColour) → p ≡ Ok c →
      Accepts s p (Ok (record { settings = s; colour = c }))

pub accepting : (s : Settings) (p : Placed) → Accepts s p (acceptance s p)
accepting s p = go (is_factor s.l) refl (is_factor s.c) refl (is_tolerance s.tolerance) refl
  where
    settings :
        (e : Refusal) → refusal (range_faults s.l s.c s.tolerance) ≡ number_of_refusal e → Accepts s p (Err e) →
        Accepts s p (acceptance s p)
    settings e h = subst (λ (a : Acceptance). Accepts s p a) (settings-refused s p e (sym h))

    reference :
        refusal (range_faults s.l s.c s.tolerance) ≡ 0 → ¬ (FactorsOut s.l s.c) →
        ¬ (ToleranceOut s.tolerance) → (q : Placed) → p ≡ q → Accepts s p (acceptance s q)
    reference none f t (Err n) e =
        subst (λ (a : Acceptance). Accepts s p a) (reference-refused s none n) (reference_out f t n e)
    reference none f t (Ok c) e = subst (λ (a : Acceptance). Accepts s p a) (is_accepted s none c) (accepts f t c e)

    go :
        (a : Bool) → is_factor s.l ≡ a → (b : Bool) → is_factor s.c ≡ b →
        (d : Bool) → is_tolerance s.tolerance ≡ d → Accepts s p (acceptance s p)
    go false hl b hc d ht = settings Why.Factor (l_out _ _ _ hl) (factors_out (inl (outside_of _ _ _ hl)))
    go true hl false hc d ht = settings Why.Factor (c_out _ _ _ hl hc) (factors_out (inr (outside_of _ _ _ hc)))
    go true hl true hc false ht =
        settings Why.Tolerance (tolerance-off _ _ _ hl hc ht)
        (tolerance_out (⊎_elim (inside_of _ _ _ hl) (inside_of _ _ _ hc)) (outside_of _ _ _ ht))
    go true hl true hc true ht =
        reference (all_in _ _ _ hl hc ht)
        (⊎_elim (inside_of _ _ _ hl) (inside_of _ _ _ hc)) (inside_of _ _ _ ht) p refl
