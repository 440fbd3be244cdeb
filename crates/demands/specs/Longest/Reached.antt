-- 161 bytes are reached: a report that has them all, by computing, and a call that is refused for want of room wherever
-- there are fewer. Assumes nothing.
use Rattle.std.specs.Prelude.{◌≡◌, refl, List, [], ◌∷◌, ℕ, ◌+◌, ◌^◌, ◌<◌, ℤ, pos, neg_ℤ, length, Ok}
use Rattle.std.proofs.Common.{sym, ◌∙◌, arith, rules}
use Rattle.rounding.specs.Root.{root_of}
use Rattle.rounding.specs.Signed.{◌·◌, ◌÷◌}
use Rattle.colour.specs.Conversion.{at_places}
use Rattle.colour.specs.declared.conversion.GridColour.{GridColour}
use Rattle.colour.specs.declared.white.White.TheVariants.{D65Ten}
use Rattle.sheet.specs.Sheet.{chroma, distance², cross, dot, same_hue, hue_change, component, component_h, total}
use Rattle.sheet.specs.Sheet.{semi_axes_cielab, semi_axes, shift, differences, sheet, comparison, compared, verdict_on}
use Rattle.sheet.specs.declared.formula.Formula.TheVariants.{CIELAB}
use Rattle.names.specs.Names.{met, first_met, hue_named, hue_name}
use Rattle.text.specs.Ascii.{ascii}
use Rattle.text.specs.Put.{joined, line}
use Rattle.text.specs.Decimal.{shown, last_digits, width_in, decimal_text}
use Rattle.report.specs.Report.{setting_lines, figure_lines, word_lines, report_text}
use Rattle.report.specs.Write.Laws.{write_number_ten}
use Rattle.standard.specs.Judgement.{judgement_of, outcome, Specimen}
use Rattle.standard.specs.declared.accept.Standard.{Standard}
use Rattle.station.specs.Record.{encode, decode}
use Rattle.station.specs.Record.Back.{decode-encode}
use Rattle.calls.specs.Outcome.{judged_by}
use Rattle.calls.specs.Calls.{judge_call}
use Rattle.calls.proofs.Theorems.Calls.Every.{as_lab, place_back}
use Rattle.calls.proofs.Theorems.Calls.Laws.{reported-judged, judge_call_gives}

-- a colour by whole L*, a*, b*
abbrev lab : (L a b : ℤ) → GridColour
lab L a b = record { L = record { 0 = (2 ^ 20) · L }; a = record { 0 = (2 ^ 20) · a }; b = record { 0 = (2 ^ 20) · b } }

-- 110 -200 -200, by CIELAB, with l and c at 10
abbrev pub standard : Standard
standard = record {
  settings = record { formula = CIELAB; white = D65Ten; l = 10000; c = 10000; tolerance = 1000 };
  colour = lab (pos 110) (neg_ℤ (pos 200)) (neg_ℤ (pos 200));
}

-- 0 -100 100
abbrev pub test : GridColour
test = lab (pos 0) (neg_ℤ (pos 100)) (pos 100)

pub record Reached : Type 0 where
  pub asked : Specimen standard test
  pub written :
      report_text (judgement_of standard test)
      ≡ joined
      (ascii "formula=CIELAB\n"
      ∷ ascii "white=D65/10\n"
      ∷ ascii "l=10.000\n"
      ∷ ascii "c=10.000\n"
      ∷ ascii "DE=334.8134\n"
      ∷ ascii "DL=-110.0000\n"
      ∷ ascii "DC=-141.4214\n"
      ∷ ascii "DH=-282.8427\n"
      ∷ ascii "lightness=darker\n"
      ∷ ascii "chroma=less\n"
      ∷ ascii "hue=greener(yellower)\n"
      ∷ ascii "verdict=fail\n"
      ∷ [])
  pub bytes : length (report_text (judgement_of standard test)) ≡ 161

pub reached : Reached
unfolding root_of ◌÷◌ at_places chroma distance² cross dot same_hue hue_change component component_h total semi_axes_cielab
    semi_axes shift differences sheet
    comparison compared verdict_on met first_met hue_named hue_name shown last_digits width_in decimal_text line setting_lines
    figure_lines word_lines report_text
    judgement_of
reached = record { asked = search rules; written = refl; bytes = refl }

-- ---- NO LESS ROOM IS ENOUGH: with this standard loaded, the test specimen is refused in every room of fewer bytes
-- from the column on

test-judged : judged_by (decode (encode standard)) (as_lab test) ≡ Ok (judgement_of standard test)
unfolding judged_by outcome
test-judged = rw (decode-encode standard reached.asked.standard, place_back D65Ten test reached.asked.test)

pub no_less_room :
    (room : List ℕ) (column : ℕ) → length room < column + 161 →
    (judge_call (encode standard) (as_lab test) room column).number ≡ 10
no_less_room room column less =
    let given =
    judge_call_gives (as_lab test) room column (encode standard) (sym test-judged)
    (reported-judged room column refl refl refl) in
    sym given.number ∙ write_number_ten room column (judgement_of standard test) (omega (arith, reached.bytes))
