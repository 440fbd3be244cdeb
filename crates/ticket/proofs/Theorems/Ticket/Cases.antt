-- Texts and their answers, by computing: the whole case of docs/SCOPE.md 11.1, and each kind of wrong line with its
-- number. Assumes nothing.
use Prim.Native.String.{String}
use Rattle.std.specs.Prelude.{◌≡◌, refl, true, false, ◌++◌, Ok}
use Rattle.text.specs.Ascii.{ascii}
use Rattle.colour.specs.declared.placed.Values.TheVariants.{Xyz, Lab}
use Rattle.colour.specs.declared.white.White.TheVariants.{D65Ten}
use Rattle.sheet.specs.declared.formula.Formula.TheVariants.{CMC}
use Rattle.ticket.specs.Ticket.{Parsed, wrong_line, named, reading_of, due, nothing_more}
use Rattle.text.specs.Bytes.{index_of, before, after, starts_with, same_bytes}
use Rattle.text.specs.Number.{numeral, digits_of, fraction_of, decimal_of, decimal_below, signed_of}
use Rattle.ticket.specs.Ticket.{test_line, ref_line, space_line, tol_line, c_line, factor_lines, white_line, ticket_of}

abbrev answer : String → Parsed
answer s = ticket_of (ascii s)

-- from line 3 on, and from the line space on
abbrev from3 : String → Parsed
from3 s = ticket_of (ascii "formula=CMC\nwhite=D65/10\n" ++ ascii s)

abbrev from6 : String → Parsed
from6 s = ticket_of (ascii "formula=CMC\nwhite=D65/10\nl=1\nc=1\ntol=1\n" ++ ascii s)

pub record TicketCases : Type 0 where
  pub whole_case_lem :
      answer "formula=CMC\nwhite=D65/10\nl=1.000\nc=1.000\ntol=1.000\nspace=LAB\nref=50 0 0\ntest=51 0 0\n"
      ≡ Ok
      (record {
        settings = record { formula = CMC; white = D65Ten; l = 1000; c = 1000; tolerance = 1000 };
        reference = Lab (decimal_below false 50000000) (decimal_below false 0) (decimal_below false 0);
        test = Lab (decimal_below false 51000000) (decimal_below false 0) (decimal_below false 0);
      })
  pub no_l_and_c :
      from3 "tol=00.5\nspace=XYZ\nref=-0 007.5 -0.000001\ntest=999.999999 1 2\n"
      ≡ Ok
      (record {
        settings = record { formula = CMC; white = D65Ten; l = 2000; c = 1000; tolerance = 500 };
        reference = Xyz (decimal_below true 0) (decimal_below false 7500000) (decimal_below true 1);
        test = Xyz (decimal_below false 999999999) (decimal_below false 1000000) (decimal_below false 2000000);
      })
  pub empty : answer "" ≡ wrong_line 1
  pub lower_case : answer "formula=cmc\nwhite=D65/10\n" ≡ wrong_line 1
  pub carriage_return : answer "formula=CMC\r\nwhite=D65/10\r\n" ≡ wrong_line 1
  pub twice : answer "formula=CMC\nformula=CMC\nwhite=D65/10\n" ≡ wrong_line 2
  pub stops_early : from3 "l=1\n" ≡ wrong_line 4
  pub c_without_l : from3 "c=1\ntol=1\nspace=LAB\nref=50 0 0\ntest=51 0 0\n" ≡ wrong_line 3
  pub l_without_c : from3 "l=1\ntol=1\nspace=LAB\nref=50 0 0\ntest=51 0 0\n" ≡ wrong_line 4
  pub three-digits : from3 "l=100\nc=1\n" ≡ wrong_line 3
  pub four_decimals : from3 "l=1.0001\nc=1\n" ≡ wrong_line 3
  pub point-alone : from3 "l=99.999\nc=1.\n" ≡ wrong_line 4
  pub plus-sign : from6 "space=LAB\nref=+50 0 0\n" ≡ wrong_line 7
  pub two_spaces : from6 "space=LAB\nref=50  0 0\n" ≡ wrong_line 7
  pub tab : from6 "space=LAB\nref=50\t0 0\n" ≡ wrong_line 7
  pub four-numbers : from6 "space=LAB\nref=50 0 0 0\n" ≡ wrong_line 7
  pub no_last_line_feed : from6 "space=LAB\nref=50 0 0\ntest=51 0 0" ≡ wrong_line 8
  pub one_line_more : from6 "space=LAB\nref=50 0 0\ntest=51 0 0\n\n" ≡ wrong_line 9
  pub short_and_more : from3 "tol=1\nspace=LAB\nref=50 0 0\ntest=51 0 0\nx" ≡ wrong_line 7

pub ticket_cases : TicketCases
unfolding index_of before after starts_with same_bytes numeral digits_of fraction_of decimal_of signed_of
    named reading_of due nothing_more
    test_line ref_line space_line tol_line c_line factor_lines white_line ticket_of
ticket_cases =
    record {
      whole_case_lem = refl;
      no_l_and_c = refl;
      empty = refl;
      lower_case = refl;
      carriage_return = refl;
      twice = refl;
      stops_early = refl;
      c_without_l = refl;
      l_without_c = refl;
      three-digits = refl;
      four_decimals = refl;
      point-alone = refl;
      plus-sign = refl;
      two_spaces = refl;
      tab = refl;
      four-numbers = refl;
      no_last_line_feed = refl;
      one_line_more = refl;
      short_and_more = refl;
    }
