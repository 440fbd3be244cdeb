-- What follows: a printed ticket is read back, and a text over 4,096 bytes is wrong at line 0. Assumes nothing.
use Rattle.std.specs.Prelude.{ℕ, ◌≤◌, ◌<◌, ◌≡◌, refl, List, length, Ok}
use Rattle.std.proofs.Common.{sym, arith}
use Rattle.std.proofs.Math.Logic.{inl, inr}
use Rattle.ticket.specs.Ticket.{missing_l, missing_c, ticket_of, wrong_line}
use Rattle.ticket.specs.Ticket.Grammar.{Place, all_places, without_l_and_c, text_of}
use Rattle.ticket.proofs.Theorems.Ticket.Grammar.Lengths.{at_most, text-few}
use Rattle.ticket.proofs.Theorems.Ticket.Grammar.Right.{right_exactly}
use Rattle.ticket.specs.Ticket.Laws.{ticket_of_long}
use Rattle.ticket.specs.Ticket.Print.{printed, print_ticket, print_short, Writable}
use Rattle.ticket.proofs.Theorems.Ticket.Print.Laws.{printed-said}
use Rattle.ticket.specs.declared.lines.Ticket.{Ticket}

module _ (t : Ticket) (w : Writable t) where
  few : (ps : List Place) → length (text_of (printed t) ps) ≤ at_most ps
  few = text-few t (printed t) (printed-said t w)

  pub print_parses : ticket_of (print_ticket t) ≡ Ok t
  unfolding print_ticket
  print_parses =
      (right_exactly (print_ticket t) t).1
      (record {
        value = printed t;
        said = printed-said t w;
        text = inl refl;
        at_most_lem = omega (arith, few all_places);
      })

  -- l and c may be left out where they are what a ticket without them has
  pub short_parses : t.settings.l ≡ missing_l → t.settings.c ≡ missing_c → ticket_of (print_short t) ≡ Ok t
  unfolding print_short
  short_parses el ec =
      (right_exactly (print_short t) t).1
      (record {
        value = printed t;
        said = printed-said t w;
        text = inr (refl, el, ec);
        at_most_lem = omega (arith, few without_l_and_c);
      })

pub long_is_line_0 : (s : List ℕ) → 4096 < length s → ticket_of s ≡ wrong_line 0
long_is_line_0 s h = sym (ticket_of_long s h)
