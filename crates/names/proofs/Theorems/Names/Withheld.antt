-- docs/SCOPE.md 7.3: exactly when a report withholds, and that it is the same whichever of the two colours is the
-- reference. Beside it the rule before version 1.3, the reference alone: exactly where the two rules differ.
-- Assumes nothing.
use Rattle.std.specs.Prelude.{◌≡◌, refl, Bool, true, false, ◌||◌, ◌↔◌, ◌⊎◌, ◌+◌, ◌*◌, ◌^◌, ◌≤◌}
use Rattle.std.proofs.Common.{sym, ◌∙◌, inl, inr, ⊎_elim, le-leb, leb-true}
use Rattle.std.proofs.lemmas.Bool.{false≢true}
use Rattle.std.proofs.Math.Bool.{not-eq-not, or_comm, or-true, or-false}
use Rattle.rounding.specs.Signed.{square}
use Rattle.colour.specs.declared.conversion.GridColour.{GridColour}
use Rattle.sheet.specs.declared.formula.Formula.{Formula}
use Rattle.sheet.specs.declared.formula.Formula.TheVariants.{CIELAB, CIE94, CMC}
use Rattle.names.specs.Names.{achromatic, withheld_by}

-- ---- a specimen

-- its a² + b² is at most 16
abbrev pub Achromatic : GridColour → Type 0
Achromatic X = square X.a.0 + square X.b.0 ≤ 16 * (2 ^ 20 * 2 ^ 20)

pub achromatic_exactly : (X : GridColour) → (achromatic X ≡ true) ↔ Achromatic X
unfolding achromatic
achromatic_exactly X = (leb-true _ _, le-leb _ _)

not_achromatic : (X : GridColour) → ¬ Achromatic X → achromatic X ≡ false
not_achromatic X h = not-eq-not.0 (λ e. h ((achromatic_exactly X).0 e))

-- ---- a pair

-- the formula is CMC, and one of the two colours is achromatic, or both are
abbrev pub Withholds : Formula → (R T : GridColour) → Type 0
Withholds f R T = (f ≡ CMC) × (Achromatic R ⊎ Achromatic T)

either_true : (p q : Bool) → (p || q) ≡ true → (p ≡ true) ⊎ (q ≡ true)
either_true true q e = inl refl
either_true false q e = inr e

only_then : (f : Formula) (R T : GridColour) → withheld_by f R T ≡ true → Withholds f R T
only_then CIELAB R T e = absurd (false≢true e)
only_then CIE94 R T e = absurd (false≢true e)
only_then CMC R T e = (
  refl,
  ⊎_elim (λ h. inl ((achromatic_exactly R).0 h)) (λ h. inr ((achromatic_exactly T).0 h))
      (either_true (achromatic R) (achromatic T) e),
)

always_then : (f : Formula) (R T : GridColour) → f ≡ CMC → Achromatic R ⊎ Achromatic T → withheld_by f R T ≡ true
always_then f R T e =
    ⊎_elim (λ h. rw (e, (achromatic_exactly R).1 h)) (λ h. rw (e, (achromatic_exactly T).1 h) (or-true (achromatic R)))

-- WITHHELD EXACTLY WHEN THE FORMULA IS CMC AND ONE OF THE TWO COLOURS IS ACHROMATIC, OR BOTH ARE
pub withheld_exactly : (f : Formula) (R T : GridColour) → (withheld_by f R T ≡ true) ↔ Withholds f R T
withheld_exactly f R T = (only_then f R T, λ h. always_then f R T h.0 h.1)

-- WHICHEVER OF THEM IS THE REFERENCE
pub withheld_symmetrical : (f : Formula) (R T : GridColour) → withheld_by f R T ≡ withheld_by f T R
withheld_symmetrical CIELAB R T = refl
withheld_symmetrical CIE94 R T = refl
withheld_symmetrical CMC R T = or_comm (achromatic R) (achromatic T)

-- ---- the rule before version 1.3: the reference alone

abbrev pub withheld_by_reference : Formula → (R : GridColour) → Bool
withheld_by_reference CIELAB R = false
withheld_by_reference CIE94 R = false
withheld_by_reference CMC R = achromatic R

-- the formula is CMC, and the test specimen alone is achromatic
abbrev pub TestAlone : Formula → (R T : GridColour) → Type 0
TestAlone f R T = (f ≡ CMC) × (¬ Achromatic R) × Achromatic T

newly_only_then :
    (f : Formula) (R T : GridColour) → withheld_by_reference f R ≡ false → withheld_by f R T ≡ true → TestAlone f R T
newly_only_then CIELAB R T e g = absurd (false≢true g)
newly_only_then CIE94 R T e g = absurd (false≢true g)
newly_only_then CMC R T e g = (
  refl,
  (λ h. false≢true (sym e ∙ (achromatic_exactly R).1 h)),
  (achromatic_exactly T).0 (rw e at g),
)

-- NEWLY WITHHELD EXACTLY WHERE UNDER CMC THE TEST SPECIMEN ALONE IS ACHROMATIC
pub withheld_newly :
    (f : Formula) (R T : GridColour) →
    ((withheld_by_reference f R ≡ false) × (withheld_by f R T ≡ true)) ↔ TestAlone f R T
withheld_newly f R T = (
  (λ h. newly_only_then f R T h.0 h.1),
  (λ h. (rw h.0 (not_achromatic R h.1), always_then f R T h.0 (inr h.2))),
)

-- AND AS BEFORE EVERYWHERE ELSE
pub withheld_as_before :
    (f : Formula) (R T : GridColour) → ¬ TestAlone f R T → withheld_by f R T ≡ withheld_by_reference f R
withheld_as_before CIELAB R T h = refl
withheld_as_before CIE94 R T h = refl
withheld_as_before CMC R T h = go (achromatic R) refl
  where
    go : (p : Bool) → achromatic R ≡ p → withheld_by CMC R T ≡ achromatic R
    go true e = rw e
    go false e =
        let other : ¬ Achromatic R = λ k. false≢true (sym e ∙ (achromatic_exactly R).1 k) in
        rw (not_achromatic T (λ g. h (refl, other, g))) (or-false (achromatic R))
