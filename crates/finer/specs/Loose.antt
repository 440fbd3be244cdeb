-- Section 2 of the argument, what a loose sheet is: numbers that satisfy each line of the sheet to within K, N being
-- 1 in their unit, and that have the sizes which the sheet is known to have (`1≤2SC`: SC is at least 1/2). The sheet
-- at n places is one (`Loose/AtPlaces.antt`), and K times the sheet at 20 places is one of the same colours
-- (`Loose/AtTwenty.antt`): what follows then speaks of any two. Assumes nothing.
use Rattle.std.specs.Prelude.{◌≡◌, Bool, true, false, ◌⊎◌, ℕ, ◌+◌, ◌-◌, ◌*◌, ◌≤◌, ◌<◌}
use Rattle.rounding.specs.Fraction.{LooseFraction}
use Rattle.rounding.specs.Root.{LooseRoot}
use Rattle.sheet.specs.declared.formula.Formula.{Formula}
use Rattle.sheet.specs.declared.formula.Formula.TheVariants.{CIELAB, CIE94, CMC}
pub mod Sheets
pub mod Lines
pub mod Times
pub mod AtPlaces
pub mod AtTwenty

-- 1 in units of 2 ^ -n and of 2 ^ -(n - 7), K being 2 ^ (n - 20)
abbrev pub unit : ℕ → ℕ
unit K = 1048576 * K

abbrev pub coarse : ℕ → ℕ
coarse K = 8192 * K

-- what the sheet looks at of its two colours, in exact numbers: a² + b² of either, D², |ΔL|, L and line 6's M of the
-- reference, whether the hue is the same and which form T has; and l and c as they count
pub record Data : Type 0 where
  pub formula : Formula
  pub l : ℕ
  pub c : ℕ
  pub square_r : ℕ
  pub square_t : ℕ
  pub D² : ℕ
  pub ΔL : ℕ
  pub L : ℕ
  pub M : ℕ
  pub same_hue : Bool
  pub second : Bool

-- the sheet's quantities, as magnitudes; CR and CT are the chromas
pub record Quantities : Type 0 where
  pub CR : ℕ
  pub CT : ℕ
  pub ΔC : ℕ
  pub ΔH : ℕ
  pub SL : ℕ
  pub SC : ℕ
  pub SH : ℕ
  pub Q : ℕ
  pub W : ℕ
  pub F : ℕ
  pub T : ℕ
  pub P : ℕ
  pub G : ℕ
  pub DL : ℕ
  pub DC : ℕ
  pub DH : ℕ
  pub DE : ℕ

-- ---- lines 3 to 7 under each formula

-- T is (constant C + slope M) / (10 ^ 9 C): 0.36 + 0.4 M / C in the first form, 0.56 + 0.2 M / C in the second
abbrev pub constant : (second : Bool) → ℕ
constant false = 360000000
constant true = 560000000

abbrev pub slope : (second : Bool) → ℕ
slope false = 4
slope true = 2

-- lines 5 to 7 of a reference that is not neutral
pub record LooseHue (K N : ℕ) (d : Data) (s : Quantities) : Type 0 where
  pub K≤C : K ≤ s.CR
  pub Q : LooseFraction K d.square_r (128 * N) s.Q
  pub W : LooseRoot 2 K (s.Q * s.Q + 1900 * (coarse K * coarse K)) s.W
  pub Q≤W : s.Q ≤ s.W
  pub 43≤W : 43 * coarse K ≤ s.W
  pub F : LooseFraction K (s.Q * N) s.W s.F
  pub F≤1 : s.F ≤ N
  pub T : LooseFraction K ((constant d.second * s.CR + slope d.second * d.M) * N) (1000000000 * s.CR) s.T
  pub T≤1 : s.T ≤ N
  pub P : LooseFraction K (s.F * s.T) N s.P
  pub G : s.G + s.F ≡ s.P + N
  pub 1≤3G : N ≤ 3 * s.G
  pub SH : LooseFraction K (s.SC * s.G) N s.SH

pub record LooseCMC (K N : ℕ) (d : Data) (s : Quantities) : Type 0 where
  pub dark : d.L < 16 * N → LooseFraction K (511 * N) 1000 s.SL
  pub light : 16 * N ≤ d.L → LooseFraction K (40975 * d.L * N) (1000000 * N + 17650 * d.L) s.SL
  pub SC :
      LooseFraction K ((638 * s.CR * 1000 + (10000 * N + 131 * s.CR) * 638) * N) ((10000 * N + 131 * s.CR) * 1000)
      s.SC
  pub neutral : d.square_r ≡ 0 → s.SH ≡ s.SC
  pub chromatic : 0 < d.square_r → LooseHue K N d s

pub record LooseCIE94 (K N : ℕ) (s : Quantities) : Type 0 where
  pub SL : s.SL ≡ N
  pub SC : LooseFraction K (1000 * N + 45 * s.CR) 1000 s.SC
  pub SH : LooseFraction K (1000 * N + 15 * s.CR) 1000 s.SH

pub record LooseCIELAB (N : ℕ) (s : Quantities) : Type 0 where
  pub SL : s.SL ≡ N
  pub SC : s.SC ≡ N
  pub SH : s.SH ≡ N

abbrev pub LooseSemiAxes : Formula → (K N : ℕ) (d : Data) (s : Quantities) → Type 0
LooseSemiAxes CIELAB K N d s = LooseCIELAB N s
LooseSemiAxes CIE94 K N d s = LooseCIE94 K N s
LooseSemiAxes CMC K N d s = LooseCMC K N d s

-- ---- lines 2 and 8, with any semi-axes that are not small

pub record LooseDifferences (K N : ℕ) (d : Data) (s : Quantities) : Type 0 where
  pub same : d.same_hue ≡ true → s.ΔH ≡ 0
  pub ΔH : d.same_hue ≡ false → LooseRoot 2 K (d.D² - s.ΔC * s.ΔC) s.ΔH
  pub 1≤2SL : N ≤ 2 * s.SL
  pub 1≤2SC : N ≤ 2 * s.SC
  pub 1≤7SH : N ≤ 7 * s.SH
  pub DL : LooseFraction K (1000 * N * d.ΔL) (d.l * s.SL) s.DL
  pub DC : LooseFraction K (1000 * N * s.ΔC) (d.c * s.SC) s.DC
  pub DH : LooseFraction K (N * s.ΔH) s.SH s.DH
  pub DE : LooseRoot 2 K (s.DL * s.DL + s.DC * s.DC + s.DH * s.DH) s.DE

-- ---- the whole

pub record Loose (K N : ℕ) (d : Data) (s : Quantities) : Type 0 where
  pub CR : LooseRoot 2 K d.square_r s.CR
  pub CT : LooseRoot 2 K d.square_t s.CT
  pub ΔC : (s.ΔC + s.CR ≡ s.CT) ⊎ (s.ΔC + s.CT ≡ s.CR)
  pub semi_axes_lem : LooseSemiAxes d.formula K N d s
  pub differences : LooseDifferences K N d s
