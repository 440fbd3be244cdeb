-- A value says what some ticket has in its place exactly where the code finds that it says something. Assumes nothing.
use Rattle.std.specs.Prelude.{ℕ, ◌≡◌, false, List, Option, None, Some}
use Rattle.std.proofs.Common.{sym, ap, ◌∙◌}
use Rattle.std.proofs.lemmas.Option.{none-some}
use Rattle.text.specs.Number.{decimal_below, thousandths_of}
use Rattle.colour.specs.Placed.{Written, in_space}
use Rattle.colour.specs.declared.white.White.{White}
use Rattle.colour.specs.declared.white.White.TheVariants.{D65Ten}
use Rattle.sheet.specs.declared.formula.Formula.{Formula}
use Rattle.sheet.specs.declared.formula.Formula.TheVariants.{CMC}
use Rattle.ticket.specs.Ticket.{formula_named, white_named, space_named, reading_of}
use Rattle.ticket.specs.Ticket.Grammar.{Place, Says}
use Rattle.ticket.proofs.Theorems.Ticket.Grammar.Values.{reads_of, of_reads, space_in_lem, own_space}
use Rattle.colour.specs.declared.placed.Space.{Space}
use Rattle.colour.specs.declared.placed.Space.TheVariants.{Xyz}
use Rattle.ticket.specs.declared.lines.Ticket.{Ticket}

pub record Tells {A : Type 0} (p : Place) (value : List ℕ → Option A) : Type 0 where
  pub some_ticket : (v : List ℕ) (x : A) → value v ≡ Some x → (t : Ticket) × Says t p v
  pub no_ticket : (v : List ℕ) → value v ≡ None → (t : Ticket) → Says t p v → ⊥

-- a ticket with these, whatever else it has
abbrev blank : Formula → White → ℕ → Written → Ticket
blank f w n r =
    record { settings = record { formula = f; white = w; l = n; c = n; tolerance = n }; reference = r; test = r }

abbrev zeros : Space → Written
zeros p = in_space p (decimal_below false 0) (decimal_below false 0) (decimal_below false 0)

silent : {A : Type 0} {o : Option A} {x : A} → o ≡ None → o ≡ Some x → ⊥
silent e h = none-some _ (sym e ∙ h)

pub tells_formula : Tells Place.formula formula_named
tells_formula =
    record { some_ticket = λ v f h. (blank f D65Ten 0 (zeros Xyz), h); no_ticket = λ v e t h. silent e h }

pub tells_white : Tells Place.white white_named
tells_white = record { some_ticket = λ v w h. (blank CMC w 0 (zeros Xyz), h); no_ticket = λ v e t h. silent e h }

pub tells_l : Tells Place.l thousandths_of
tells_l = record { some_ticket = λ v n h. (blank CMC D65Ten n (zeros Xyz), h); no_ticket = λ v e t h. silent e h }

pub tells_c : Tells Place.c thousandths_of
tells_c = record { some_ticket = λ v n h. (blank CMC D65Ten n (zeros Xyz), h); no_ticket = λ v e t h. silent e h }

pub tells_tol : Tells Place.tol thousandths_of
tells_tol = record { some_ticket = λ v n h. (blank CMC D65Ten n (zeros Xyz), h); no_ticket = λ v e t h. silent e h }

pub tells_space : Tells Place.space space_named
tells_space =
    record {
      some_ticket = λ v p h. (blank CMC D65Ten 0 (zeros p), h ∙ ap Some (sym (space_in_lem _ _ _ p)));
      no_ticket = λ v e t h. silent e h;
    }

module _ (p : Space) where
  pub tells_ref : Tells Place.ref (reading_of p)
  tells_ref =
      record {
        some_ticket = λ v r h. (blank CMC D65Ten 0 r, own_space (reads_of p v h));
        no_ticket = λ v e t h. silent e (of_reads p h);
      }

  pub tells_test : Tells Place.test (reading_of p)
  tells_test =
      record {
        some_ticket = λ v r h. (blank CMC D65Ten 0 r, own_space (reads_of p v h));
        no_ticket = λ v e t h. silent e (of_reads p h);
      }
