-- docs/SCOPE.md 6.2, lines 1 and 2: where ΔL, ΔC and ΔH are all 0, the two colours are the same. In the same hue both
-- points lie on one ray; in another ΔH is the root of D² itself. Assumes nothing.
use Rattle.std.specs.Prelude.{◌≡◌, Bool, not, ◌&&◌, ℕ, ◌+◌, ◌-◌, ◌*◌, ◌<◌, eqb, ℤ, pos, ◌-ℤ◌}
use Rattle.std.proofs.Math.Path.{refl, sym, ap}
use Rattle.std.proofs.Common.{◌∙◌, arith, eqb-true}
use Rattle.std.proofs.Math.Bool.{true, false, cond}
use Rattle.std.proofs.lemmas.Bool.{false≢true}
use Rattle.rounding.specs.Root.{root_of}
use Rattle.rounding.proofs.Theorems.Root.Laws.{sqrt_low, sqrt_high}
use Rattle.rounding.specs.Signed.{∣◌∣, square, minus, signed}
use Rattle.rounding.proofs.Theorems.Signed.Laws.{abs-signed}
use Rattle.colour.specs.Conversion.{Lab}
use Rattle.sheet.specs.Sheet.{chroma, chroma_of, distance², change, cross, dot, same_hue, hue_change, shift}
use Rattle.sheet.specs.Sheet.Apart.Ray.{Rooted}
use Rattle.sheet.proofs.Theorems.Sheet.Apart.Ray.{le-square, eq_of_sub, same_on_ray}
use Rattle.sheet.proofs.Theorems.Sheet.Laws.{abs-change}

rooted : (a b : ℤ) → Rooted (chroma a b) ∣ a ∣ ∣ b ∣
unfolding chroma
rooted a b = record { low = sqrt_low (square a + square b); high = sqrt_high (square a + square b) }

same_hue_parts : (x y : ℤ) → same_hue x y ≡ true → (∣ x ∣ ≡ 0) × (minus y ≡ false)
unfolding same_hue
same_hue_parts x y e = go (eqb ∣ x ∣ 0) (minus y) refl refl e
  where
    go : (p q : Bool) → eqb ∣ x ∣ 0 ≡ p → minus y ≡ q → p && not q ≡ true → (∣ x ∣ ≡ 0) × (minus y ≡ false)
    go true false h g e = (eqb-true ∣ x ∣ 0 h, g)
    go true true h g e = absurd (false≢true e)
    go false q h g e = absurd (false≢true e)

module _ (a_r b_r a_t b_t : ℤ) (one-C : chroma a_r b_r ≡ chroma a_t b_t) where
  abbrev D² : ℕ
  D² = distance² a_r b_r a_t b_t

  abbrev ΔC : ℤ
  ΔC = change (chroma a_r b_r) (chroma a_t b_t)

  abbrev x : ℤ
  x = cross a_r b_r a_t b_t

  abbrev y : ℤ
  y = dot a_r b_r a_t b_t

  same_of_same_hue : ∣ x ∣ ≡ 0 → minus y ≡ false → (a_r ≡ a_t) × (b_r ≡ b_t)
  unfolding cross dot
  same_of_same_hue line side =
      same_on_ray (chroma a_r b_r) a_r b_r a_t b_t (eq_of_sub _ _ line) side (rooted a_r b_r) (rw one-C (rooted a_t b_t))

  same_of_distance : D² ≡ 0 → (a_r ≡ a_t) × (b_r ≡ b_t)
  unfolding distance²
  same_of_distance e =
      let a : ∣ a_t -ℤ a_r ∣ ≡ 0 = omega (arith, le-square ∣ a_t -ℤ a_r ∣) in
      let b : ∣ b_t -ℤ b_r ∣ ≡ 0 = omega (arith, le-square ∣ b_t -ℤ b_r ∣) in
      (sym (eq_of_sub a_t a_r a), sym (eq_of_sub b_t b_r b))

  same_of_hue_change : ∣ hue_change D² ΔC x y ∣ ≡ 0 → (a_r ≡ a_t) × (b_r ≡ b_t)
  unfolding hue_change
  same_of_hue_change = go (same_hue x y) refl
    where
      go :
          (b : Bool) → same_hue x y ≡ b → ∣ cond b (pos 0) (signed (minus x) (root_of 2 (D² - square ΔC))) ∣ ≡ 0 →
          (a_r ≡ a_t) × (b_r ≡ b_t)
      go true same e = let h = same_hue_parts x y same in same_of_same_hue h.0 h.1
      go false other e =
          let none : ∣ ΔC ∣ ≡ 0 = omega (arith, abs-change (chroma a_r b_r) (chroma a_t b_t)) in
          let root : root_of 2 (D² - square ΔC) ≡ 0 = sym (abs-signed (minus x) _) ∙ e in
          let small : D² - square ΔC < 1 = rw root at (sqrt_high (D² - square ΔC)) in
          same_of_distance (omega (arith, ap (λ (z : ℕ). z * z) none))

pub same_of_shift : (R T : Lab) → ∣ (shift R T).L ∣ ≡ 0 → ∣ (shift R T).C ∣ ≡ 0 → ∣ (shift R T).H ∣ ≡ 0 → R ≡ T
unfolding shift
same_of_shift R T h_l h_c h_h =
    let e_c : chroma_of R ≡ chroma_of T = omega (arith, abs-change (chroma_of R) (chroma_of T)) in
    let e_l : R.L ≡ T.L = omega (arith, abs-change R.L T.L) in
    let e = same_of_hue_change R.a R.b T.a T.b e_c h_h in
    λ i. record { L = e_l i; a = e.0 i; b = e.1 i }
