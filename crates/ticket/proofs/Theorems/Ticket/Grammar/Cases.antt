-- A few texts, by computing: their lines, and which form they have. No proof cites this. Assumes nothing.
use Prim.Native.String.{String}
use Rattle.std.specs.Prelude.{◌≡◌, refl, List, [], ◌∷◌, ◌++◌}
use Rattle.text.specs.Ascii.{ascii}
use Rattle.text.specs.Bytes.{starts_with}
use Rattle.text.specs.Lines.{ended, unended, lines_of, nth}
use Rattle.ticket.specs.Ticket.Grammar.{Place, all_places, without_l_and_c, form_of}

-- of a text from line 3 on
abbrev form : String → List Place
form s = form_of (ascii "formula=CMC\nwhite=D65/10\n" ++ ascii s)

pub record GrammarCases : Type 0 where
  pub no_line : lines_of [] ≡ []
  pub two_lines : lines_of (ascii "a\n\n") ≡ ended (ascii "a") ∷ ended [] ∷ []
  pub last_without_LF : lines_of (ascii "a\nbc") ≡ ended (ascii "a") ∷ unended (ascii "bc") ∷ []
  pub l_and_c_lem : form "l=1\nc=1\ntol=1\n" ≡ all_places
  pub neither : form "tol=1\nspace=LAB\n" ≡ without_l_and_c
  pub l_alone : form "l=1\ntol=1\n" ≡ all_places
  pub nothing_yet : form "" ≡ all_places

pub grammar_cases : GrammarCases
unfolding lines_of nth form_of starts_with
grammar_cases =
    record {
      no_line = refl;
      two_lines = refl;
      last_without_LF = refl;
      l_and_c_lem = refl;
      neither = refl;
      l_alone = refl;
      nothing_yet = refl;
    }
