-- What callers use of settings by the numbers of a load: each way out, and that settings are those of their own numbers
-- and of no others. Assumes nothing.
use Rattle.std.specs.Prelude.{◌≡◌, refl, Bool, true, false, cond, ℕ, eqb, Ok, Err, Option, Some, None}
use Rattle.std.proofs.Common.{ap, ◌∙◌, subst, arith, eqb-true}
use Rattle.colour.specs.Refusal.{refusal_of}
use Rattle.colour.specs.White.{white_numbered, number_of_white, numbered_back}
use Rattle.colour.specs.declared.white.White.{White}
use Rattle.colour.specs.declared.white.White.TheVariants.{D65Ten, D65Two, CTen, CTwo}
use Rattle.sheet.specs.Settings.{number_of_formula, formula_numbered}
use Rattle.sheet.proofs.Theorems.Settings.Laws.{formula-numbered}
use Rattle.sheet.specs.declared.formula.Formula.{Formula}
use Rattle.sheet.specs.declared.formula.Formula.TheVariants.{CIELAB, CIE94, CMC}
use Rattle.sheet.specs.declared.settings.Settings.{Settings}
use Rattle.standard.specs.Refusals.{number_at, first_of, refusal}
use Rattle.standard.specs.Acceptance.{named, number_faults, settings_of}
use Rattle.colour.specs.declared.refusal.Refusal.TheVariants as Why

module _ (formula white l c tolerance : ℕ) {f : Option Formula} (ef : f ≡ formula_numbered formula) where
  pub no_formula_lem : f ≡ None → Err Why.Formula ≡ settings_of formula white l c tolerance
  unfolding settings_of
  no_formula_lem h = rw (← ef, h)

  module _ {w : Option White} (ew : w ≡ white_numbered white) {is : Formula} (h : f ≡ Some is) where
    pub no_white_lem : w ≡ None → Err Why.White ≡ settings_of formula white l c tolerance
    unfolding settings_of
    no_white_lem g = rw (← ef, ← ew, h, g)

    pub both_named :
        {in_white : White} → w ≡ Some in_white →
        Ok (record { formula = is; white = in_white; l = l; c = c; tolerance = tolerance })
        ≡ settings_of formula white l c tolerance
    unfolding settings_of
    both_named g = rw (← ef, ← ew, h, g)

-- its number is that of its first fault
pub named-number :
    (f : Option Formula) (w : Option White) (l c tolerance : ℕ) →
    refusal_of (named f w l c tolerance) ≡ refusal (number_faults f w)
unfolding refusal number_at first_of
named-number (Some f) (Some w) l c tolerance = refl
named-number (Some f) None l c tolerance = refl
named-number None w l c tolerance = refl

-- ---- settings are those of their own numbers, and of no others

pub settings_back :
    (s : Settings) → settings_of (number_of_formula s.formula) (number_of_white s.white) s.l s.c s.tolerance
    ≡ Ok s
unfolding settings_of
settings_back s = rw (formula-numbered s.formula, numbered_back s.white)

pub record NumbersOf (s : Settings) (f w m n t : ℕ) : Type 0 where
  pub formula : f ≡ number_of_formula s.formula
  pub white : w ≡ number_of_white s.white
  pub l : m ≡ s.l
  pub c : n ≡ s.c
  pub tolerance : t ≡ s.tolerance

formula-number : (n : ℕ) {f : Formula} → formula_numbered n ≡ Some f → n ≡ number_of_formula f
unfolding formula_numbered
formula-number n {f} = go (eqb n 1) refl (eqb n 2) refl (eqb n 3) refl
  where
    go :
        (p : Bool) → eqb n 1 ≡ p → (q : Bool) → eqb n 2 ≡ q → (r : Bool) → eqb n 3 ≡ r →
        cond p (Some CIELAB) (cond q (Some CIE94) (cond r (Some CMC) None)) ≡ Some f → n ≡ number_of_formula f
    go true hp q hq r hr h = let is : CIELAB ≡ f = cc in eqb-true n 1 hp ∙ ap number_of_formula is
    go false hp true hq r hr h = let is : CIE94 ≡ f = cc in eqb-true n 2 hq ∙ ap number_of_formula is
    go false hp false hq true hr h = let is : CMC ≡ f = cc in eqb-true n 3 hr ∙ ap number_of_formula is
    go false hp false hq false hr h = let no : ◌≡◌ {A = ℕ} 0 1 = cc in absurd (omega arith)

white-number : (n : ℕ) {w : White} → white_numbered n ≡ Some w → n ≡ number_of_white w
unfolding white_numbered
white-number n {w} = go (eqb n 1) refl (eqb n 2) refl (eqb n 3) refl (eqb n 4) refl
  where
    go :
        (p : Bool) → eqb n 1 ≡ p → (q : Bool) → eqb n 2 ≡ q → (r : Bool) → eqb n 3 ≡ r → (s : Bool) → eqb n 4 ≡ s →
        cond p (Some D65Ten) (cond q (Some D65Two) (cond r (Some CTen) (cond s (Some CTwo) None))) ≡ Some w →
        n ≡ number_of_white w
    go true hp q hq r hr s hs h = let is : D65Ten ≡ w = cc in eqb-true n 1 hp ∙ ap number_of_white is
    go false hp true hq r hr s hs h = let is : D65Two ≡ w = cc in eqb-true n 2 hq ∙ ap number_of_white is
    go false hp false hq true hr s hs h = let is : CTen ≡ w = cc in eqb-true n 3 hr ∙ ap number_of_white is
    go false hp false hq false hr true hs h = let is : CTwo ≡ w = cc in eqb-true n 4 hs ∙ ap number_of_white is
    go false hp false hq false hr false hs h = let no : ◌≡◌ {A = ℕ} 0 1 = cc in absurd (omega arith)

pub settings-only :
    (formula white l c tolerance : ℕ) {s : Settings} → settings_of formula white l c tolerance ≡ Ok s →
    NumbersOf s formula white l c tolerance
unfolding settings_of
settings-only formula white l c tolerance {s} = go (formula_numbered formula) refl (white_numbered white) refl
  where
    go :
        (f : Option Formula) → formula_numbered formula ≡ f → (w : Option White) → white_numbered white ≡ w →
        named f w l c tolerance ≡ Ok s → NumbersOf s formula white l c tolerance
    go (Some f) hf (Some w) hw h =
        let same : ◌≡◌ {A = Settings} (record { formula = f; white = w; l = l; c = c; tolerance = tolerance }) s = cc in
        subst (λ (t : Settings). NumbersOf t formula white l c tolerance) same
        (record {
          formula = formula-number formula hf;
          white = white-number white hw;
          l = refl;
          c = refl;
          tolerance = refl;
        })
    go (Some f) hf None hw h = let no : ◌≡◌ {A = ℕ} 0 1 = cc in absurd (omega arith)
    go None hf w hw h = let no : ◌≡◌ {A = ℕ} 0 1 = cc in absurd (omega arith)
