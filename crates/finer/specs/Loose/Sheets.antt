-- Section 2, the sheet as a loose sheet reads it: the exact numbers of two colours, the quantities of the sheet at n
-- places, and K times each quantity. Assumes nothing.
use Rattle.std.specs.Prelude.{◌≡◌, refl, Bool, ℕ, ◌+◌, ◌*◌, ℤ}
use Rattle.rounding.specs.Signed.{∣◌∣, square}
use Rattle.colour.specs.declared.conversion.GridColour.{GridColour}
use Rattle.colour.specs.Conversion.{Lab, at_places}
use Rattle.sheet.specs.Sheet.{chroma_of, distance², change, cross, dot, same_hue, hue_change, hue_q, hue_w, hue_f, second_form}
use Rattle.sheet.specs.Sheet.{hue_m, hue_t, hue_p, hue_g}
use Rattle.sheet.specs.Sheet.{semi_axes, shift, factor_under, component, component_h, total, differences, sheet}
use Rattle.sheet.specs.declared.semi_axes.SemiAxes.{SemiAxes}
use Rattle.sheet.specs.declared.formula.Formula.{Formula}
use Rattle.finer.specs.Loose.{Data, Quantities}

-- of two colours in one unit
unfoldable pub data_of : Formula → (l c : ℕ) (R T : Lab) → Data
data_of f l c R T = record {
  formula = f;
  l = factor_under f l;
  c = factor_under f c;
  square_r = square R.a + square R.b;
  square_t = square T.a + square T.b;
  D² = distance² R.a R.b T.a T.b;
  ΔL = ∣ change R.L T.L ∣;
  L = R.L;
  M = hue_m (second_form R.a R.b) R.a R.b;
  same_hue = same_hue (cross R.a R.b T.a T.b) (dot R.a R.b T.a T.b);
  second = second_form R.a R.b;
}

-- the sheet at n places of two colours in units of 2 ^ -n
unfoldable pub quantities : (n : ℕ) → Formula → (l c : ℕ) (R T : Lab) → Quantities
quantities n f l c R T =
    let S : SemiAxes = semi_axes n f R in
    let ΔC : ℤ = change (chroma_of R) (chroma_of T) in
    let x : ℤ = cross R.a R.b T.a T.b in
    let y : ℤ = dot R.a R.b T.a T.b in
    let ΔH : ℤ = hue_change (distance² R.a R.b T.a T.b) ΔC x y in
    let DL : ℤ = component n (factor_under f l) S.SL (change R.L T.L) in
    let DC : ℤ = component n (factor_under f c) S.SC ΔC in
    let DH : ℤ = component_h n S.SH ΔH in
    let Q : ℕ = hue_q n R.a R.b in
    let F : ℕ = hue_f n Q (hue_w n Q) in
    let second : Bool = second_form R.a R.b in
    let T' : ℕ = hue_t n second (hue_m second R.a R.b) (chroma_of R) in
    record {
      CR = chroma_of R;
      CT = chroma_of T;
      ΔC = ∣ ΔC ∣;
      ΔH = ∣ ΔH ∣;
      SL = S.SL;
      SC = S.SC;
      SH = S.SH;
      Q = Q;
      W = hue_w n Q;
      F = F;
      T = T';
      P = hue_p n F T';
      G = hue_g n (hue_p n F T') F;
      DL = ∣ DL ∣;
      DC = ∣ DC ∣;
      DH = ∣ DH ∣;
      DE = total DL DC DH;
    }

-- its DE is the sheet's
pub quantities-DE :
    (n : ℕ) (f : Formula) (l c : ℕ) (R T : GridColour) →
    (quantities n f l c (at_places n R) (at_places n T)).DE ≡ (sheet n f l c R T).DE
unfolding quantities sheet differences shift
quantities-DE n f l c R T = refl

-- every quantity K times
unfoldable pub times : (K : ℕ) → Quantities → Quantities
times K s = record {
  CR = K * s.CR;
  CT = K * s.CT;
  ΔC = K * s.ΔC;
  ΔH = K * s.ΔH;
  SL = K * s.SL;
  SC = K * s.SC;
  SH = K * s.SH;
  Q = K * s.Q;
  W = K * s.W;
  F = K * s.F;
  T = K * s.T;
  P = K * s.P;
  G = K * s.G;
  DL = K * s.DL;
  DC = K * s.DC;
  DH = K * s.DH;
  DE = K * s.DE;
}

pub times-DE : (K : ℕ) (s : Quantities) → (times K s).DE ≡ K * s.DE
unfolding times
times-DE K s = refl
