-- docs/SCOPE.md 10.1: whatever the judgement, a report is twelve lines, each ended by LF, and no other LF stands in it.
-- Assumes nothing.
use Rattle.std.specs.Prelude.{◌≡◌, refl, Bool, true, false, List, [], ◌∷◌, ◌++◌, map, ℕ, suc, ◌+◌, length}
use Rattle.std.proofs.Common.{sym, ap, ap₂, ◌∙◌, append_assoc, lit<, length-append}
use Rattle.colour.specs.declared.white.White.{White}
use Rattle.colour.specs.declared.white.White.TheVariants.{D65Ten, D65Two, CTen, CTwo}
use Rattle.sheet.specs.declared.differences.Differences.{Differences}
use Rattle.sheet.specs.declared.formula.Formula.{Formula}
use Rattle.sheet.specs.declared.formula.Formula.TheVariants.{CIELAB, CIE94, CMC}
use Rattle.sheet.specs.declared.settings.Settings.{Settings}
use Rattle.sheet.specs.declared.verdict.Verdict.{Verdict}
use Rattle.sheet.specs.declared.verdict.Verdict.TheVariants.{Near, Pass, Fail}
use Rattle.names.specs.declared.Lightness.{Lightness}
use Rattle.names.specs.declared.Lightness.TheVariants as L
use Rattle.names.specs.declared.Chroma.{Chroma}
use Rattle.names.specs.declared.Chroma.TheVariants as C
use Rattle.names.specs.declared.Axis.{Axis}
use Rattle.names.specs.declared.Axis.TheVariants.{Redder, Yellower, Greener, Bluer}
use Rattle.names.specs.declared.Hue.{Hue}
use Rattle.names.specs.declared.Hue.TheVariants as H
use Rattle.standard.specs.declared.judge.Judgement.{Judgement}
use Rattle.text.proofs.Theorems.Bytes.Parts.{free, free-append}
use Rattle.text.specs.Decimal.{decimal_text}
use Rattle.text.specs.Names.{formula_name, white_name}
use Rattle.text.proofs.Theorems.Number.Written.{free-minus, free-decimal}
use Rattle.text.specs.Lines.{ended}
use Rattle.text.proofs.Theorems.Lines.Laws.{bytes, Proper, AreLines}
use Rattle.text.specs.Put.{joined, line}
use Rattle.text.specs.declared.decimal.Shown.{Shown}
use Rattle.lines.specs.Lines.{lightness_word, chroma_word, axis_word, hue_word, verdict_word, unless_withheld}
use Rattle.report.specs.Report.{setting_lines, figure_lines, word_lines, report_text}

-- ---- a text of k lines, each ended by LF; as `AreLines` has it, no other LF stands in them

pub record IsLines (k : ℕ) (s : List ℕ) : Type 0 where
  pub lines : List (List ℕ)
  pub count : length lines ≡ k
  pub are : AreLines s (map ended lines)

no_lines : IsLines 0 []
no_lines = record { lines = []; count = refl; are = record { whole = refl; proper = tt } }

one_more_line :
    {k : ℕ} {s : List ℕ} (key value : List ℕ) → free 10 key ≡ true → free 10 value ≡ true → IsLines k s →
    IsLines (suc k) (line key value ++ s)
unfolding line
one_more_line key value hk hv h = record {
  lines = (key ++ value) ∷ h.lines;
  count = ap suc h.count;
  are = record {
    whole = rw h.are.whole (simp append_assoc);
    proper = (free-append 10 key value hk hv, h.are.proper);
  };
}

abbrev text_of : List (List ℕ) → List ℕ
text_of ls = joined (map bytes (map ended ls))

whole_append : (ls ms : List (List ℕ)) → text_of (ls ++ ms) ≡ text_of ls ++ text_of ms
whole_append [] ms = refl
whole_append (l ∷ ls) ms =
    ap (λ (t : List ℕ). bytes (ended l) ++ t) (whole_append ls ms)
    ∙ sym (append_assoc (bytes (ended l)) (text_of ls) (text_of ms))

proper-append :
    (ls ms : List (List ℕ)) → Proper (map ended ls) → Proper (map ended ms) → Proper (map ended (ls ++ ms))
proper-append [] ms h g = g
proper-append (l ∷ ls) ms h g = (h.0, proper-append ls ms h.1 g)

lines-append : {k m : ℕ} {s t : List ℕ} → IsLines k s → IsLines m t → IsLines (k + m) (s ++ t)
lines-append h g = record {
  lines = h.lines ++ g.lines;
  count = length-append h.lines g.lines ∙ ap₂ ◌+◌ h.count g.count;
  are = record {
    whole = ap₂ ◌++◌ h.are.whole g.are.whole ∙ sym (whole_append h.lines g.lines);
    proper = proper-append h.lines g.lines h.are.proper g.are.proper;
  };
}

-- ---- what a line says has no LF

free-number : (d : Shown) → free 10 (decimal_text d) ≡ true
free-number d = free-decimal 10 d (lit< tt) refl (free-minus 10 d.minus refl)

free-formula : (f : Formula) → free 10 (formula_name f) ≡ true
free-formula CIELAB = refl
free-formula CIE94 = refl
free-formula CMC = refl

free-white : (w : White) → free 10 (white_name w) ≡ true
free-white D65Ten = refl
free-white D65Two = refl
free-white CTen = refl
free-white CTwo = refl

free-lightness : (x : Lightness) → free 10 (lightness_word x) ≡ true
free-lightness L.Lighter = refl
free-lightness L.Darker = refl
free-lightness L.Equal = refl

free-chroma : (x : Chroma) → free 10 (chroma_word x) ≡ true
free-chroma C.More = refl
free-chroma C.Less = refl
free-chroma C.Equal = refl

free-axis : (x : Axis) → free 10 (axis_word x) ≡ true
free-axis Redder = refl
free-axis Yellower = refl
free-axis Greener = refl
free-axis Bluer = refl

free-hue : (x : Hue) → free 10 (hue_word x) ≡ true
free-hue H.Equal = refl
free-hue (H.Towards name bracket) =
    free-append 10 (axis_word name) _ (free-axis name) (free-append 10 (axis_word bracket) _ (free-axis bracket) refl)

free-verdict : (v : Verdict) → free 10 (verdict_word v) ≡ true
free-verdict Near = refl
free-verdict Pass = refl
free-verdict Fail = refl

free_unless : (withheld : Bool) (s : List ℕ) → free 10 s ≡ true → free 10 (unless_withheld withheld s) ≡ true
free_unless true s h = refl
free_unless false s h = h

-- ---- four lines, four lines, four lines

setting_lines_lem : (s : Settings) → IsLines 4 (joined (setting_lines s))
unfolding setting_lines
setting_lines_lem s =
    one_more_line _ _ refl (free-formula s.formula)
    (one_more_line _ _ refl (free-white s.white)
    (one_more_line _ _ refl (free-number _) (one_more_line _ _ refl (free-number _) no_lines)))

figure-lines : (withheld : Bool) (d : Differences) → IsLines 4 (joined (figure_lines withheld d))
unfolding figure_lines
figure-lines withheld d =
    one_more_line _ _ refl (free-number _)
    (one_more_line _ _ refl (free-number _)
    (one_more_line _ _ refl (free_unless withheld _ (free-number _))
    (one_more_line _ _ refl (free_unless withheld _ (free-number _)) no_lines)))

word-lines : (j : Judgement) → IsLines 4 (joined (word_lines j))
unfolding word_lines
word-lines j =
    one_more_line _ _ refl (free-lightness j.lightness)
    (one_more_line _ _ refl (free_unless j.withheld _ (free-chroma j.chroma))
    (one_more_line _ _ refl (free_unless j.withheld _ (free-hue j.hue))
    (one_more_line _ _ refl (free-verdict j.verdict) no_lines)))

pub report_twelve_lines : (j : Judgement) → IsLines 12 (report_text j)
unfolding report_text
report_twelve_lines j =
    lines-append (setting_lines_lem j.standard.settings)
    (lines-append (figure-lines j.withheld j.comparison.differences) (lines-append (word-lines j) no_lines))
