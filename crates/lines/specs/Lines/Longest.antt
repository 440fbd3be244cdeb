-- The longest that a line can say: with k digits before the point, and a difference together with its name, of which
-- one is short where the other is long. Assumes nothing.
use Rattle.std.specs.Prelude.{◌≡◌, refl, Bool, true, false, ◌⊎◌, ℕ, ◌+◌, ◌*◌, ◌/◌, ◌^◌, ◌≤◌, ◌<◌, ℤ, length}
use Rattle.std.proofs.Common.{sym, ◌∙◌, inl, inr, ⊎_elim, div-lt_iff_lt-mul, arith}
use Rattle.rounding.specs.Signed.{∣◌∣, minus}
use Rattle.colour.specs.declared.white.White.{White}
use Rattle.colour.specs.declared.white.White.TheVariants.{D65Ten, D65Two, CTen, CTwo}
use Rattle.sheet.specs.declared.verdict.Verdict.{Verdict}
use Rattle.sheet.specs.declared.verdict.Verdict.TheVariants.{Near, Pass, Fail}
use Rattle.names.specs.declared.Lightness.{Lightness}
use Rattle.names.specs.declared.Lightness.TheVariants as L
use Rattle.names.specs.declared.Chroma.{Chroma}
use Rattle.names.specs.declared.Chroma.TheVariants as C
use Rattle.names.specs.declared.Axis.{Axis}
use Rattle.names.specs.declared.Axis.TheVariants.{Redder, Yellower, Greener, Bluer}
use Rattle.names.specs.declared.Hue.{Hue}
use Rattle.names.specs.declared.Hue.TheVariants as H
use Rattle.text.specs.Decimal.{minus_sign, decimal_text}
use Rattle.text.proofs.Theorems.Decimal.Laws.{shown_whole_lt, width-le, decimal-length}
use Rattle.text.specs.Names.{white_name}
use Rattle.lines.specs.Lines.{lightness_word, chroma_word, axis_word, hue_word, verdict_word, thousandths, figure}
use Rattle.lines.specs.Lines.{signed_figure}
use Rattle.lines.specs.Lines.Laws.{axes-length}

-- m units are below so many ones, and by one at least, so that no carry comes to them
abbrev pub Under : (ones m : ℕ) → Type 0
Under ones m = m + 2 ^ 20 ≤ ones * 2 ^ 20

-- ---- numbers

minus-sign-le : (b : Bool) → length (minus_sign b) ≤ 1
minus-sign-le true = omega arith
minus-sign-le false = omega arith

-- with k digits before the point
module _ (k : ℕ) (some : 0 < k) where
  pub thousandths-length-le : (m : ℕ) → m < 10 ^ k * 1000 → length (decimal_text (thousandths m)) ≤ k + 4
  thousandths-length-le m h =
      omega (
        arith,
        decimal-length (thousandths m),
        width-le k (m / 1000) some
            ((div-lt_iff_lt-mul {k = 1000} {x = m} {y = 10 ^ k} (omega arith)).1 h),
      )

  pub figure-length-le : (below : Bool) (m : ℕ) → Under (10 ^ k) m → length (decimal_text (figure below m)) ≤ k + 6
  figure-length-le below m h =
      let digits = width-le k (figure below m).whole some (shown_whole_lt 4 (2 ^ 20) (10 ^ k) m (omega arith) h) in
      omega (arith, decimal-length (figure below m), minus-sign-le (figure below m).minus)

  pub plain_length_le :
      (below : Bool) (m : ℕ) → below ≡ false → Under (10 ^ k) m → length (decimal_text (figure below m)) ≤ k + 5
  plain_length_le below m e h =
      let digits = width-le k (figure below m).whole some (shown_whole_lt 4 (2 ^ 20) (10 ^ k) m (omega arith) h) in
      let none : length (minus_sign (figure below m).minus) ≡ 0 = rw e in
      omega (arith, decimal-length (figure below m))

  -- ---- a difference with its name

  pub lightness_and_DL_le :
      (x : Lightness) (z : ℤ) → (x ≡ L.Lighter → minus z ≡ false) → Under (10 ^ k) ∣ z ∣ →
      length (lightness_word x) + length (decimal_text (signed_figure z)) ≤ k + 12
  lightness_and_DL_le L.Lighter z up h = omega (arith, plain_length_le (minus z) ∣ z ∣ (up refl) h)
  lightness_and_DL_le L.Darker z up h = omega (arith, figure-length-le (minus z) ∣ z ∣ h)
  lightness_and_DL_le L.Equal z up h = omega (arith, figure-length-le (minus z) ∣ z ∣ h)

  pub chroma_and_DC_le :
      (x : Chroma) (z : ℤ) → (x ≡ C.Equal → minus z ≡ false) → Under (10 ^ k) ∣ z ∣ →
      length (chroma_word x) + length (decimal_text (signed_figure z)) ≤ k + 10
  chroma_and_DC_le C.More z same h = omega (arith, figure-length-le (minus z) ∣ z ∣ h)
  chroma_and_DC_le C.Less z same h = omega (arith, figure-length-le (minus z) ∣ z ∣ h)
  chroma_and_DC_le C.Equal z same h = omega (arith, plain_length_le (minus z) ∣ z ∣ (same refl) h)

-- ---- names

pub white-length-le : (w : White) → length (white_name w) ≤ 6
white-length-le D65Ten = omega arith
white-length-le D65Two = omega arith
white-length-le CTen = omega arith
white-length-le CTwo = omega arith

pub verdict-length : (v : Verdict) → length (verdict_word v) ≡ 4
verdict-length Near = refl
verdict-length Pass = refl
verdict-length Fail = refl

-- only yellower has eight bytes, and it is not its own bracket
seven_or_yellower : (x : Axis) → (length (axis_word x) ≤ 7) ⊎ (x ≡ Yellower)
seven_or_yellower Redder = inl (omega arith)
seven_or_yellower Yellower = inr refl
seven_or_yellower Greener = inl (omega arith)
seven_or_yellower Bluer = inl (omega arith)

axis-length-le : (x : Axis) → length (axis_word x) ≤ 8
axis-length-le x = ⊎_elim (λ h. omega arith) (λ e. rw e (omega arith)) (seven_or_yellower x)

axes-le : (name bracket : Axis) → (name ≡ bracket → ⊥) → length (axis_word name) + length (axis_word bracket) ≤ 15
axes-le name bracket differ =
    ⊎_elim
    (λ h. omega (arith, axis-length-le bracket))
    (λ e. ⊎_elim (λ h. omega (arith, axis-length-le name)) (λ f. absurd (differ (e ∙ sym f)))
    (seven_or_yellower bracket))
    (seven_or_yellower name)

pub hue-length-le :
    (x : Hue) → ((name bracket : Axis) → x ≡ H.Towards name bracket → name ≡ bracket → ⊥) → length (hue_word x) ≤ 17
hue-length-le H.Equal differ = omega arith
hue-length-le (H.Towards name bracket) differ =
    omega (arith, axes-length name bracket, axes-le name bracket (differ name bracket refl))
