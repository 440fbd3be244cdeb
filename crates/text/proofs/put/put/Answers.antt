-- A turn pastes one byte more. Assumes nothing.
use Rattle.std.proofs.Common.{◌≡◌, ℕ, refl, ap, ◌∙◌, length, arith}
use Rattle.std.proofs.Math.Seq.{paste}
use Rattle.std.proofs.lemmas.List.Edits.{paste_none, paste_more}
use Rattle.text.proofs.Theorems.Put.Laws.{paste_is_put}
use Rattle.text.proofs.put.put.Goals as goal

pub loop-j-init : goal.loop-j-init
loop-j-init c = record { done = paste_none c.args.dst.now c.args.at c.args.src.now }

pub loop-j-preserved : goal.loop-j-preserved
loop-j-preserved c =
    let a = c.args in
    record { done = rw c.loop-j.invariant.done (paste_more a.dst.now a.at a.src.now c.loop-j.j 0 (omega arith) (omega arith)) }

pub returns : goal.returns
returns c =
    let a = c.args in
    let all : c.loop-j.j ≡ length a.src.now = omega arith in
    record {
      end = refl;
      bytes =
          c.loop-j.invariant.done ∙ ap (λ (k : ℕ). paste a.dst.now a.at a.src.now k) all
          ∙ paste_is_put a.dst.now a.at a.src.now;
    }
