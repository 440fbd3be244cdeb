-- What load, judge and ticket hand back, as C takes it: figures as floats, names and the verdict as numbers.
-- Assumes nothing.
use Rattle.std.specs.Prelude.{ℕ, Option, Some, None}
use Rattle.sheet.specs.declared.verdict.Verdict.{Verdict}
use Rattle.sheet.specs.declared.verdict.Verdict.TheVariants.{Near, Pass, Fail}
use Rattle.names.specs.declared.Axis.{Axis}
use Rattle.names.specs.declared.Axis.TheVariants.{Redder, Yellower, Greener, Bluer}
use Rattle.names.specs.declared.Lightness as Lightness
use Rattle.names.specs.declared.Chroma as Chroma
use Rattle.names.specs.declared.Hue as Hue
use Rattle.standard.specs.declared.figures.ReferenceAnswer.{ReferenceAnswer}
use Rattle.standard.specs.declared.figures.SpecimenAnswer.{SpecimenAnswer}
use Rattle.standard.specs.declared.figures.Names.{Names}
use Rattle.probe.specs.declared.answers.Reference.{Reference}
use Rattle.probe.specs.declared.answers.Specimen.{Specimen}
use Rattle.probe.specs.declared.answers.Words.{Words}

-- ---- names and the verdict, counted from 1 in the order of SCOPE 6.4 and 7

abbrev pub lightness_number : Lightness.Lightness → ℕ
lightness_number Lightness.TheVariants.Lighter = 1
lightness_number Lightness.TheVariants.Darker = 2
lightness_number Lightness.TheVariants.Equal = 3

abbrev pub chroma_number : Chroma.Chroma → ℕ
chroma_number Chroma.TheVariants.More = 1
chroma_number Chroma.TheVariants.Less = 2
chroma_number Chroma.TheVariants.Equal = 3

abbrev pub axis_number : Axis → ℕ
axis_number Redder = 1
axis_number Yellower = 2
axis_number Greener = 3
axis_number Bluer = 4

abbrev pub hue_number : Hue.Hue → ℕ
hue_number (Hue.TheVariants.Towards name bracket) = axis_number name
hue_number Hue.TheVariants.Equal = 5

abbrev pub bracket_number : Hue.Hue → ℕ
bracket_number (Hue.TheVariants.Towards name bracket) = axis_number bracket
bracket_number Hue.TheVariants.Equal = 0

abbrev pub verdict_number : Verdict → ℕ
verdict_number Near = 1
verdict_number Pass = 2
verdict_number Fail = 3

-- 0 where nothing is said
unfoldable pub words_of : Option Names → Words
words_of None = record { lightness = 0; chroma = 0; hue = 0; bracket = 0; verdict = 0 }
words_of (Some n) = record {
  lightness = lightness_number n.lightness;
  chroma = chroma_number n.chroma;
  hue = hue_number n.hue;
  bracket = bracket_number n.hue;
  verdict = verdict_number n.verdict;
}

-- ---- the answers

unfoldable pub reference_of : ReferenceAnswer → Reference
reference_of x = record {
  number = x.number;
  lightness = x.figures.L;
  a = x.figures.a;
  b = x.figures.b;
  c = x.figures.C;
  sl = x.figures.SL;
  sc = x.figures.SC;
  sh = x.figures.SH;
}

unfoldable pub specimen_of : SpecimenAnswer → Specimen
specimen_of x = record {
  number = x.number;
  lightness = x.figures.L;
  a = x.figures.a;
  b = x.figures.b;
  c = x.figures.C;
  dl = x.figures.DL;
  dc = x.figures.DC;
  dh = x.figures.DH;
  de = x.figures.DE;
  words = words_of x.names;
}
