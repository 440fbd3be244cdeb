-- What `greatest` finds: no number that passes is greater, and where one passes, the greatest does. Assumes nothing.
use Rattle.std.specs.Prelude.{◌≡◌, refl, Bool, true, false, ℕ, zero, suc, ◌-◌, ◌≤◌, ◌<◌}
use Rattle.std.proofs.Common.{sym, ap, ◌∙◌, ⊎_elim, not-suc-le-zero, eq-or-lt_of_le, le_antisymm}
use Rattle.std.proofs.lemmas.Bool.{false≢true}
use Rattle.std.proofs.Math.Nat.{le_of_suc-le-suc}
use native.Mathlib.Omega.{arith}
use Rattle.angle.specs.Angle.{greatest}

-- g is what is found below n
pub record IsGreatest (p : ℕ → Bool) (n g : ℕ) : Type 0 where
  -- no number that passes is greater
  pub most : (j : ℕ) → j < n → p j ≡ true → j ≤ g
  -- where one passes, g does
  pub passes : (j : ℕ) → j < n → p j ≡ true → p g ≡ true
  pub low : g ≤ n - 1

module _ (p : ℕ → Bool) where
  none : IsGreatest p 0 (greatest p 0)
  unfolding greatest
  none = record {
    most = λ j h e. absurd (not-suc-le-zero h);
    passes = λ j h e. absurd (not-suc-le-zero h);
    low = omega arith;
  }

  passing : (n : ℕ) → p n ≡ true → IsGreatest p (suc n) (greatest p (suc n))
  unfolding greatest
  passing n e = rw e (record { most = λ j h f. le_of_suc-le-suc h; passes = λ j h f. e; low = omega arith })

  -- one that fails is not that which passes
  not_last : {n j : ℕ} → p n ≡ false → p j ≡ true → j < suc n → j < n
  not_last e f h =
      ⊎_elim (λ same. absurd (false≢true (sym e ∙ ap p (sym same) ∙ f))) (λ less. less)
      (eq-or-lt_of_le (le_of_suc-le-suc h))

  failing : (n : ℕ) → p n ≡ false → IsGreatest p n (greatest p n) → IsGreatest p (suc n) (greatest p (suc n))
  unfolding greatest
  failing n e g = rw e (record {
    most = λ j h f. g.most j (not_last e f h) f;
    passes = λ j h f. g.passes j (not_last e f h) f;
    low = omega (arith, g.low);
  })

  one_more : (n : ℕ) (t : Bool) → p n ≡ t → IsGreatest p n (greatest p n) → IsGreatest p (suc n) (greatest p (suc n))
  one_more n true e g = passing n e
  one_more n false e g = failing n e g

  pub is_greatest : (n : ℕ) → IsGreatest p n (greatest p n)
  is_greatest zero = none
  is_greatest (suc n) = one_more n (p n) refl (is_greatest n)

  -- it is g, if g passes and nothing above g does
  pub greatest_is :
      (n g : ℕ) → g < n → p g ≡ true → ((j : ℕ) → j < n → p j ≡ true → j ≤ g) → greatest p n ≡ g
  greatest_is n g h e most =
      let found = is_greatest n in
      le_antisymm (most (greatest p n) (omega (arith, found.low)) (found.passes g h e)) (found.most g h e)
