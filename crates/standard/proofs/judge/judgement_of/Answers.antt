-- `judge::judgement_of` meets its contract: the sheet, the names and the verdict, a part a call. Assumes nothing.
use Rattle.std.proofs.Common.{◌≡◌, Bool, w64, to_z, of_z, rules}
use Rattle.std.specs.Prelude.{ℤ}
use Rattle.colour.specs.declared.conversion.GridColour.{GridColour}
use Rattle.sheet.specs.Sheet.{comparison, tolerance_on, verdict_on}
use Rattle.sheet.specs.declared.comparison.Comparison.{Comparison}
use Rattle.sheet.specs.declared.scaled.Scaled.{Scaled}
use Rattle.sheet.specs.declared.verdict.Verdict.{Verdict}
use Rattle.names.specs.Names.{lightness_name, chroma_name, hue_named, hue_name, withheld_by}
use Rattle.names.proofs.Theorems.Names.Laws.{hue_of_comparison}
use Rattle.names.specs.declared.Lightness.{Lightness}
use Rattle.names.specs.declared.Chroma.{Chroma}
use Rattle.names.specs.declared.Hue.{Hue}
use Rattle.standard.specs.declared.accept.Standard.{Standard}
use Rattle.standard.specs.declared.judge.Judgement.{Judgement}
use Rattle.standard.specs.Judgement.{judgement_of}
use Rattle.standard.proofs.judge.judgement_of.Goals as goal

module _ (s : Standard) (T : GridColour) {k : Comparison}
    (hk : k ≡ comparison 20 s.settings.formula s.settings.l s.settings.c s.colour T) where
  -- the cross and the dot of the sheet name the hue
  hue_is :
      {x y a b : ℤ} {hue : Hue} → x ≡ k.cross → y ≡ k.dot → a ≡ s.colour.a.0 → b ≡ s.colour.b.0 →
      hue ≡ hue_named x y a b →
      hue ≡ hue_name s.colour T
  hue_is hx hy ha hb h = rw (h, hx, hy, ha, hb, hk) (hue_of_comparison 20 _ _ _ s.colour T)

  -- the judgement from its parts
  judgement_is :
      {l c : ℤ} {lightness : Lightness} {chroma : Chroma} {hue : Hue} {t : Scaled} {v : Verdict} {w : Bool} →
      l ≡ k.shift.L → lightness ≡ lightness_name l →
      c ≡ k.shift.C → chroma ≡ chroma_name c →
      hue ≡ hue_name s.colour T →
      t ≡ tolerance_on 20 s.settings.formula s.settings.tolerance → v ≡ verdict_on 20 t k.scaled →
      w ≡ withheld_by s.settings.formula s.colour T →
      ◌≡◌ {A = Judgement}
      (record {
        standard = s;
        test = T;
        comparison = k;
        lightness = lightness;
        chroma = chroma;
        hue = hue;
        verdict = v;
        withheld = w;
      })
      (judgement_of s T)
  unfolding judgement_of
  judgement_is hl hlightness hc hchroma hh ht hv hw = cc

pub returns : goal.returns
returns c =
    let s = c.args.s in
    let T = c.args.t in
    let k = c.comparison_of-found.result in
    let is = c.comparison_of-found.ensures in
    let L : to_z w64 (of_z w64 k.shift.L) ≡ k.shift.L = search rules in
    let C : to_z w64 (of_z w64 k.shift.C) ≡ k.shift.C = search rules in
    let cross : to_z w64 (of_z w64 k.cross) ≡ k.cross = search rules in
    let dot : to_z w64 (of_z w64 k.dot) ≡ k.dot = search rules in
    let a : to_z w64 (of_z w64 s.colour.a.0) ≡ s.colour.a.0 = search rules in
    let b : to_z w64 (of_z w64 s.colour.b.0) ≡ s.colour.b.0 = search rules in
    judgement_is s T is L c.lightness_name.ensures C c.chroma_name.ensures
    (hue_is s T is cross dot a b c.hue_name.ensures) c.tolerance-tolerance.ensures c.verdict.ensures c.is_withheld.ensures
