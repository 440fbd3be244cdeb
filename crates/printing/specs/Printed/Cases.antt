-- Texts with what is printed for them, by computing: the whole case of docs/SCOPE.md 11.1, the same without l and c,
-- and refusals. No proof cites this. Assumes nothing.
use Prim.Native.String.{String}
use Rattle.std.specs.Prelude.{◌≡◌, refl, List, [], ◌∷◌, ◌++◌, ℕ}
use Rattle.rounding.specs.Root.{root_of}
use Rattle.rounding.specs.Signed.{◌÷◌}
use Rattle.reading.specs.Reading.{decimal_units}
use Rattle.colour.specs.Conversion.{at_places}
use Rattle.colour.specs.Refusal.{refusal_numbered}
use Rattle.colour.specs.Placed.{take, place_by}
use Rattle.sheet.specs.Settings.{within}
use Rattle.sheet.specs.Sheet.{chroma, cross, dot, same_hue, hue_change, semi_axis_l, semi_axis_c, component, component_h}
use Rattle.sheet.specs.Sheet.{total, hue_semi_axis}
use Rattle.sheet.specs.Sheet.{semi_axes_cmc, semi_axes, shift, differences, sheet, compared, verdict_on, comparison}
use Rattle.names.specs.Names.{achromatic}
use Rattle.text.specs.Ascii.{ascii}
use Rattle.text.specs.Put.{joined, line}
use Rattle.text.specs.Decimal.{shown, last_digits, width_in, decimal_text}
use Rattle.text.specs.Bytes.{index_of, before, after, starts_with, same_bytes}
use Rattle.text.specs.Number.{numeral, digits_of, fraction_of, decimal_of, signed_of}
use Rattle.ticket.specs.Ticket.{named, reading_of, due, nothing_more}
use Rattle.ticket.specs.Ticket.{test_line, ref_line, space_line, tol_line, c_line, factor_lines, white_line, ticket_of}
use Rattle.report.specs.Report.{setting_lines, figure_lines, word_lines, report_text}
use Rattle.standard.specs.Refusals.{number_at, first_of, refusal}
use Rattle.standard.specs.Acceptance.{range_faults, accept_faults, acceptance}
use Rattle.standard.specs.Judgement.{judgement_of, outcome}
use Rattle.calls.specs.Outcome.{ticket_outcome}
use Rattle.printing.specs.Printed.{refusal_line, printed_text}

abbrev printed_for : String → List ℕ
printed_for s = printed_text (ascii s)

-- from line 3 on
abbrev from3 : String → List ℕ
from3 s = printed_text (ascii "formula=CMC\nwhite=D65/10\n" ++ ascii s)

pub record PrintedCases : Type 0 where
  pub whole_case_lem :
      printed_for "formula=CMC\nwhite=D65/10\nl=1.000\nc=1.000\ntol=1.000\nspace=LAB\nref=50 0 0\ntest=51 0 0\n"
      ≡ joined
      (ascii "formula=CMC\n"
      ∷ ascii "white=D65/10\n"
      ∷ ascii "l=1.000\n"
      ∷ ascii "c=1.000\n"
      ∷ ascii "DE=0.9189\n"
      ∷ ascii "DL=0.9189\n"
      ∷ ascii "DC=withheld\n"
      ∷ ascii "DH=withheld\n"
      ∷ ascii "lightness=lighter\n"
      ∷ ascii "chroma=withheld\n"
      ∷ ascii "hue=withheld\n"
      ∷ ascii "verdict=pass\n"
      ∷ [])
  -- the same pair without the lines l and c, which are 2.000 and 1.000 then: case 8 of SCOPE 12.1
  pub without_l_and_c_lem :
      from3 "tol=1.000\nspace=LAB\nref=50 0 0\ntest=51 0 0\n"
      ≡ joined
      (ascii "formula=CMC\n"
      ∷ ascii "white=D65/10\n"
      ∷ ascii "l=2.000\n"
      ∷ ascii "c=1.000\n"
      ∷ ascii "DE=0.4594\n"
      ∷ ascii "DL=0.4594\n"
      ∷ ascii "DC=withheld\n"
      ∷ ascii "DH=withheld\n"
      ∷ ascii "lightness=lighter\n"
      ∷ ascii "chroma=withheld\n"
      ∷ ascii "hue=withheld\n"
      ∷ ascii "verdict=pass\n"
      ∷ [])
  pub empty : printed_for "" ≡ ascii "refused=7 line=1\n"
  pub third-line :
      from3 "l=1,000\nc=1.000\ntol=1.000\nspace=LAB\nref=50 0 0\ntest=51 0 0\n" ≡ ascii "refused=7 line=3\n"
  pub factor : from3 "l=0.499\nc=1\ntol=1\nspace=LAB\nref=50 0 0\ntest=51 0 0\n" ≡ ascii "refused=3 line=0\n"
  pub out_of_range : from3 "tol=1\nspace=LAB\nref=50 0 0\ntest=121 0 0\n" ≡ ascii "refused=6 line=0\n"

pub printed_cases : PrintedCases
unfolding root_of ◌÷◌ refusal_numbered decimal_units at_places take place_by within
    chroma cross dot same_hue hue_change semi_axis_l semi_axis_c component component_h total hue_semi_axis
    semi_axes_cmc semi_axes shift differences sheet compared verdict_on comparison achromatic
    line shown last_digits width_in decimal_text index_of before after starts_with same_bytes numeral digits_of fraction_of
    decimal_of signed_of
    named reading_of due nothing_more
    test_line ref_line space_line tol_line c_line factor_lines white_line ticket_of
    setting_lines figure_lines word_lines report_text
    number_at first_of refusal range_faults accept_faults acceptance judgement_of outcome ticket_outcome refusal_line
    printed_text
printed_cases =
    record {
      whole_case_lem = refl;
      without_l_and_c_lem = refl;
      empty = refl;
      third-line = refl;
      factor = refl;
      out_of_range = refl;
    }
