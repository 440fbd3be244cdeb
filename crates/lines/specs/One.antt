-- Any two outcomes that a contract of `lines` admits on one input are equal: a length, or the index after the line and
-- the bytes of the lent slice; a field for each function, under its name, and for `word_len` and `put_word` one for each
-- line that they say too. A contract that is one equation is not listed. Assumes nothing.
use Rattle.std.specs.Prelude.{Bool, false, List, ℕ, ℤ}
use Rattle.colour.specs.declared.white.White.{White}
use Rattle.sheet.specs.declared.formula.Formula.{Formula}
use Rattle.sheet.specs.declared.verdict.Verdict.{Verdict}
use Rattle.names.specs.declared.Lightness.{Lightness}
use Rattle.names.specs.declared.Chroma.{Chroma}
use Rattle.names.specs.declared.Hue.{Hue}
use Rattle.text.specs.Ascii.{ascii}
use Rattle.text.specs.Decimal.{decimal_text}
use Rattle.text.specs.Names.{formula_name, white_name}
use Rattle.text.proofs.Theorems.One.{PutsOne, puts_one, LengthOne, length_one}
use Rattle.text.specs.Put.{line}
use Rattle.text.specs.declared.decimal.Shown.{Shown}
use Rattle.lines.specs.Lines.{lightness_word, chroma_word, hue_word, verdict_word, unless_withheld}
use Rattle.lines.specs.Lines.{figure, signed_figure, thousandths}

pub record LengthsOne : Type 0 where
  pub thousandths_len_lem : (m : ℕ) → LengthOne (decimal_text (thousandths m)) 25
  pub figure_len_lem : (m : ℕ) → LengthOne (decimal_text (figure false m)) 26
  pub signed_len_lem : (z : ℤ) → LengthOne (decimal_text (signed_figure z)) 26
  pub word_len_lem : (word : List ℕ) (most : ℕ) → LengthOne word most
  pub formula_len_lem : (f : Formula) → LengthOne (formula_name f) 6
  pub white_len_lem : (w : White) → LengthOne (white_name w) 6
  pub lightness_len : (x : Lightness) → LengthOne (lightness_word x) 7
  pub chroma_len : (withheld : Bool) (x : Chroma) → LengthOne (unless_withheld withheld (chroma_word x)) 8
  pub hue_len_lem : (withheld : Bool) (x : Hue) → LengthOne (unless_withheld withheld (hue_word x)) 18
  pub verdict_len : (x : Verdict) → LengthOne (verdict_word x) 4

pub lengths_one : LengthsOne
lengths_one = record {
  thousandths_len_lem = λ m. length_one (decimal_text (thousandths m)) 25;
  figure_len_lem = λ m. length_one (decimal_text (figure false m)) 26;
  signed_len_lem = λ z. length_one (decimal_text (signed_figure z)) 26;
  word_len_lem = λ word most. length_one word most;
  formula_len_lem = λ f. length_one (formula_name f) 6;
  white_len_lem = λ w. length_one (white_name w) 6;
  lightness_len = λ x. length_one (lightness_word x) 7;
  chroma_len = λ withheld x. length_one (unless_withheld withheld (chroma_word x)) 8;
  hue_len_lem = λ withheld x. length_one (unless_withheld withheld (hue_word x)) 18;
  verdict_len = λ x. length_one (verdict_word x) 4;
}

-- into the slice xs, from index at on
pub record LinesOne (xs : List ℕ) (at : ℕ) : Type 0 where
  pub put-number : (key : List ℕ) (d : Shown) → PutsOne xs at (line key (decimal_text d))
  pub put-chromatic :
      (withheld : Bool) (key : List ℕ) (d : Shown) →
      PutsOne xs at (line key (unless_withheld withheld (decimal_text d)))
  pub put-word : (key word : List ℕ) → PutsOne xs at (line key word)
  pub put-formula : (f : Formula) → PutsOne xs at (line (ascii "formula=") (formula_name f))
  pub put-white : (w : White) → PutsOne xs at (line (ascii "white=") (white_name w))
  pub put-lightness : (x : Lightness) → PutsOne xs at (line (ascii "lightness=") (lightness_word x))
  pub put-chroma :
      (withheld : Bool) (x : Chroma) →
      PutsOne xs at (line (ascii "chroma=") (unless_withheld withheld (chroma_word x)))
  pub put-hue :
      (withheld : Bool) (x : Hue) → PutsOne xs at (line (ascii "hue=") (unless_withheld withheld (hue_word x)))
  pub put-verdict : (x : Verdict) → PutsOne xs at (line (ascii "verdict=") (verdict_word x))

pub lines_one : (xs : List ℕ) (at : ℕ) → LinesOne xs at
lines_one xs at = record {
  put-number = λ key d. puts_one _ _ _;
  put-chromatic = λ withheld key d. puts_one _ _ _;
  put-word = λ key word. puts_one _ _ _;
  put-formula = λ f. puts_one _ _ _;
  put-white = λ w. puts_one _ _ _;
  put-lightness = λ x. puts_one _ _ _;
  put-chroma = λ withheld x. puts_one _ _ _;
  put-hue = λ withheld x. puts_one _ _ _;
  put-verdict = λ x. puts_one _ _ _;
}
