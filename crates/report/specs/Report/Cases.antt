-- Two reports, whole, by computation: that of docs/SCOPE.md 11.1, and one with brackets and minus signs.
-- Assumes nothing.
use Rattle.std.specs.Prelude.{◌≡◌, refl, Bool, true, false, [], ◌∷◌, pos, negsuc}
use Rattle.reading.specs.Grid.{grid_of}
use Rattle.colour.specs.declared.conversion.GridColour.{GridColour}
use Rattle.colour.specs.declared.white.White.TheVariants.{D65Ten, CTwo}
use Rattle.sheet.specs.Sheet.{difference_on}
use Rattle.sheet.specs.declared.differences.Differences.{Differences}
use Rattle.sheet.specs.declared.formula.Formula.TheVariants.{CIELAB, CMC}
use Rattle.sheet.specs.declared.settings.Settings.{Settings}
use Rattle.sheet.specs.declared.verdict.Verdict.{Verdict}
use Rattle.sheet.specs.declared.verdict.Verdict.TheVariants.{Near, Pass}
use Rattle.names.specs.declared.Lightness.{Lightness}
use Rattle.names.specs.declared.Lightness.TheVariants as L
use Rattle.names.specs.declared.Chroma.{Chroma}
use Rattle.names.specs.declared.Chroma.TheVariants as C
use Rattle.names.specs.declared.Axis.TheVariants.{Redder, Yellower}
use Rattle.names.specs.declared.Hue.{Hue}
use Rattle.names.specs.declared.Hue.TheVariants as H
use Rattle.standard.specs.declared.judge.Judgement.{Judgement}
use Rattle.text.specs.Ascii.{ascii}
use Rattle.text.specs.Put.{joined, line}
use Rattle.text.specs.Decimal.{shown, last_digits, width_in, decimal_text}
use Rattle.report.specs.Report.{setting_lines, figure_lines, word_lines, report_text}

-- what is not printed
abbrev black : GridColour
black = record { L = grid_of (pos 0); a = grid_of (pos 0); b = grid_of (pos 0) }

-- a judgement that has this to say
abbrev saying : Settings → Differences → Lightness → Chroma → Hue → Verdict → (withheld : Bool) → Judgement
saying s d lightness chroma hue verdict withheld =
    record {
      standard = record { settings = s; colour = black };
      test = black;
      comparison =
          record {
            C = 0;
            shift = record { L = pos 0; C = pos 0; H = pos 0 };
            cross = pos 0;
            dot = pos 0;
            differences = d;
            scaled = difference_on s.formula d.DE;
          };
      lightness = lightness;
      chroma = chroma;
      hue = hue;
      verdict = verdict;
      withheld = withheld;
    }

-- 50 0 0 to 51 0 0 under CMC
pub whole_case : Judgement
whole_case =
    saying (record { formula = CMC; white = D65Ten; l = 1000; c = 1000; tolerance = 1000 })
    (record { DL = pos 963487; DC = pos 0; DH = pos 0; DE = 963487 })
    L.Lighter C.Equal H.Equal Pass true

-- DL = -1.5, DC = -0.0000495.. which shows no digit but zeros, DH = -0.0000505.. which is nearer to -0.0001
pub other_case : Judgement
other_case =
    saying (record { formula = CIELAB; white = CTwo; l = 500; c = 10000; tolerance = 1500 })
    (record { DL = negsuc 1572863; DC = negsuc 51; DH = negsuc 52; DE = 1572864 })
    L.Darker C.Less (H.Towards Yellower Redder) Near false

pub record ReportCases : Type 0 where
  pub whole :
      report_text whole_case
      ≡ joined
      (ascii "formula=CMC\n"
      ∷ ascii "white=D65/10\n"
      ∷ ascii "l=1.000\n"
      ∷ ascii "c=1.000\n"
      ∷ ascii "DE=0.9189\n"
      ∷ ascii "DL=0.9189\n"
      ∷ ascii "DC=withheld\n"
      ∷ ascii "DH=withheld\n"
      ∷ ascii "lightness=lighter\n"
      ∷ ascii "chroma=withheld\n"
      ∷ ascii "hue=withheld\n"
      ∷ ascii "verdict=pass\n"
      ∷ [])
  pub other :
      report_text other_case
      ≡ joined
      (ascii "formula=CIELAB\n"
      ∷ ascii "white=C/2\n"
      ∷ ascii "l=0.500\n"
      ∷ ascii "c=10.000\n"
      ∷ ascii "DE=1.5000\n"
      ∷ ascii "DL=-1.5000\n"
      ∷ ascii "DC=0.0000\n"
      ∷ ascii "DH=-0.0001\n"
      ∷ ascii "lightness=darker\n"
      ∷ ascii "chroma=less\n"
      ∷ ascii "hue=yellower(redder)\n"
      ∷ ascii "verdict=near\n"
      ∷ [])

pub report_cases : ReportCases
unfolding whole_case other_case report_text setting_lines figure_lines word_lines line decimal_text shown width_in last_digits
report_cases = record { whole = refl; other = refl }
