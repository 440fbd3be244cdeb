-- The rows of a reading are true, since the first of its rules that holds refuses it. Assumes nothing.
use Rattle.std.specs.Prelude.{◌≡◌, refl, ◌↔◌, Ok, Err}
use Rattle.std.proofs.Common.{ap, arith}
use Rattle.colour.specs.declared.white.White.{White}
use Rattle.colour.specs.declared.conversion.GridColour.{GridColour}
use Rattle.colour.specs.Placed.{Reading, Written, Placed}
use Rattle.colour.specs.Refusal.{refusal_of}
use Rattle.colour.specs.Placed.Exactly.{Read, not_finite, out, beyond, at, ReadingRows, WrittenRows}
use Rattle.colour.proofs.Theorems.Placed.Exactly.Ways.{read, read-written}
use Rattle.colour.specs.declared.refusal.Refusal.TheVariants as Why

module _ {N O B : Type 0} where
  row_5 : {p : Placed} → Read N O B p → p ≡ Err Why.NotANumber ↔ N
  row_5 (not_finite n) = (λ e. n, λ h. refl)
  row_5 (out n o) = (λ e. absurd (omega (arith, ap refusal_of e)), λ h. absurd (n h))
  row_5 (beyond n o b) = (λ e. absurd (omega (arith, ap refusal_of e)), λ h. absurd (n h))
  row_5 (at c n o b) = (λ e. absurd (omega (arith, ap refusal_of e)), λ h. absurd (n h))

  row_6 : {p : Placed} → Read N O B p → p ≡ Err Why.OutOfRange ↔ (O × ¬ N)
  row_6 (not_finite n) = (λ e. absurd (omega (arith, ap refusal_of e)), λ h. absurd (h.1 n))
  row_6 (out n o) = (λ e. (o, n), λ h. refl)
  row_6 (beyond n o b) = (λ e. absurd (omega (arith, ap refusal_of e)), λ h. absurd (o h.0))
  row_6 (at c n o b) = (λ e. absurd (omega (arith, ap refusal_of e)), λ h. absurd (o h.0))

  row_8 : {p : Placed} → Read N O B p → p ≡ Err Why.Beyond256 ↔ (B × ¬ N × ¬ O)
  row_8 (not_finite n) = (λ e. absurd (omega (arith, ap refusal_of e)), λ h. absurd (h.1 n))
  row_8 (out n o) = (λ e. absurd (omega (arith, ap refusal_of e)), λ h. absurd (h.2 o))
  row_8 (beyond n o b) = (λ e. (b, n, o), λ h. refl)
  row_8 (at c n o b) = (λ e. absurd (omega (arith, ap refusal_of e)), λ h. absurd (b h.0))

  row-placed : {p : Placed} → Read N O B p → ((c : GridColour) × (p ≡ Ok c)) ↔ (¬ N × ¬ O × ¬ B)
  row-placed (not_finite n) = (λ e. absurd (omega (arith, ap refusal_of e.1)), λ h. absurd (h.0 n))
  row-placed (out n o) = (λ e. absurd (omega (arith, ap refusal_of e.1)), λ h. absurd (h.1 o))
  row-placed (beyond n o b) = (λ e. absurd (omega (arith, ap refusal_of e.1)), λ h. absurd (h.2 b))
  row-placed (at c n o b) = (λ e. (n, o, b), λ h. (c, refl))

pub reading-rows : (w : White) (r : Reading) → ReadingRows w r
reading-rows w r =
    let v = read w r in
    record { is_5 = row_5 v; is_6 = row_6 v; is_8 = row_8 v; is_placed = row-placed v }

pub written-rows : (w : White) (r : Written) → WrittenRows w r
written-rows w r =
    let v = read-written w r in
    record {
      is_6 = (λ e. ((row_6 v).0 e).0, λ h. (row_6 v).1 (h, λ n. n));
      is_8 = (λ e. let h = (row_8 v).0 e in (h.0, h.2), λ h. (row_8 v).1 (h.0, λ n. n, h.1));
      is_placed = (λ e. let h = (row-placed v).0 e in (h.1, h.2), λ h. (row-placed v).1 (λ n. n, h.0, h.1));
    }
