-- `bytes::find` meets its contract: the library's search goes by the same test. Assumes nothing.
use Rattle.std.specs.Prelude.{◌≡◌, ℕ, ◌≤◌, Bool, true, false, cond, List, Some, None, unwrap_or, position, length, eqb, ltb}
use Rattle.std.proofs.Common.{rules, tests, arith, refl, sym, subst, ap, ◌∙◌}
use Rattle.std.proofs.lemmas.Iterator.{YieldsList-from_slice}
use Rattle.std.proofs.lemmas.Iterator.Search.{position_from_yields_List}
use Rattle.std.proofs.lemmas.List.Sums.{prefix_len-le-length}
use borrow.Author.Tests.{ltb-false}
use Rattle.text.specs.Bytes.{index_of}
use Rattle.text.specs.Bytes.Laws.{Found}
use Rattle.text.proofs.Theorems.Bytes.Library.{index_is_position}
use Rattle.text.proofs.bytes.find.Goals as goal

-- a search's answer, or the length where it has none
found_by :
    (b : ℕ) (s : List ℕ) (i : ℕ) (e : Bool) → index_of b s ≡ i → i ≤ length s → ltb i (length s) ≡ e →
    Found b s (unwrap_or (cond e (Some i) None) (length s))
found_by b s i true h k t = record { first = sym h; within = k }
found_by b s i false h k t =
    let end : length s ≤ i = ltb-false i (length s) t in
    record { first = omega arith; within = omega arith }

pub returns : goal.returns
returns c =
    let a = c.args in
    let found : c.position.result ≡ position (λ x. eqb x a.b) a.s.now =
    position_from_yields_List (λ x. eqb x a.b) _ _ c.position.result c.position.ensures.ran
    (YieldsList-from_slice a.s.now c.iter.ensures.rest) (λ x b q k. search (rules, tests)) in
    let e = c.unwrap_or.ensures ∙ ap (λ o. unwrap_or o (length a.s.now)) found in
    subst (Found a.b a.s.now) (sym e)
    (found_by a.b a.s.now _ _ (index_is_position a.b a.s.now) (prefix_len-le-length _ a.s.now) refl)
