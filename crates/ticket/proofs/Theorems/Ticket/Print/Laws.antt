-- What is printed in a place says what the ticket has there. Assumes nothing.
use Rattle.std.specs.Prelude.{◌^◌, ◌<◌, ◌≡◌, refl, Some}
use Rattle.std.proofs.Common.{subst}
use Rattle.text.specs.Bytes.{starts_with, same_bytes}
use Rattle.text.specs.Names.{formula_name, white_name}
use Rattle.text.proofs.Theorems.Number.Written.{thousandths-written, signed-written}
use Rattle.reading.specs.declared.decimal.Decimal.{Decimal}
use Rattle.colour.specs.Placed.{Written, in_space}
use Rattle.colour.specs.declared.placed.Values.TheVariants as W
use Rattle.colour.specs.declared.white.White.{White}
use Rattle.colour.specs.declared.white.White.TheVariants.{D65Ten, D65Two, CTen, CTwo}
use Rattle.sheet.specs.declared.formula.Formula.{Formula}
use Rattle.sheet.specs.declared.formula.Formula.TheVariants.{CIELAB, CIE94, CMC}
use Rattle.ticket.specs.Ticket.{named, formula_named, white_named, space_name, space_named, space_of}
use Rattle.ticket.specs.Ticket.Grammar.{Place, Reads, Says}
use Rattle.ticket.specs.Ticket.Print.{number, triple, reading_text, printed, Fits, Writable}
use Rattle.colour.specs.declared.placed.Space.{Space}
use Rattle.colour.specs.declared.placed.Space.TheVariants.{Xyz, Lab}
use Rattle.ticket.specs.declared.lines.Ticket.{Ticket}

-- ---- names

pub formula-read : (f : Formula) → formula_named (formula_name f) ≡ Some f
unfolding named same_bytes starts_with
formula-read CIELAB = refl
formula-read CIE94 = refl
formula-read CMC = refl

pub white-read : (w : White) → white_named (white_name w) ≡ Some w
unfolding named same_bytes starts_with
white-read D65Ten = refl
white-read D65Two = refl
white-read CTen = refl
white-read CTwo = refl

space-read : (p : Space) → space_named (space_name p) ≡ Some p
unfolding named same_bytes starts_with
space-read Xyz = refl
space-read Lab = refl

-- ---- readings

triple-read :
    (p : Space) (x y z : Decimal) → x.millionths < 10 ^ 9 → y.millionths < 10 ^ 9 → z.millionths < 10 ^ 9
    → Reads p (triple x y z) (in_space p x y z)
triple-read p x y z hx hy hz =
    record {
      first = number x;
      second = number y;
      third = number z;
      parted = refl;
      x = x;
      y = y;
      z = z;
      x_said = signed-written x.below x.millionths hx;
      y_said = signed-written y.below y.millionths hy;
      z_said = signed-written z.below z.millionths hz;
      reading = refl;
    }

reading-read : (r : Written) → Fits r → Reads (space_of r) (reading_text r) r
unfolding reading_text
reading-read (W.Xyz x y z) h = triple-read Xyz x y z h.0 h.1 h.2
reading-read (W.Lab x y z) h = triple-read Lab x y z h.0 h.1 h.2

-- ---- each place

module _ (t : Ticket) (w : Writable t) where
  pub printed-said : (p : Place) → Says t p (printed t p)
  printed-said Place.formula = formula-read t.settings.formula
  printed-said Place.white = white-read t.settings.white
  printed-said Place.l = thousandths-written t.settings.l w.l_fits
  printed-said Place.c = thousandths-written t.settings.c w.c_fits
  printed-said Place.tol = thousandths-written t.settings.tolerance w.tolerance-fits
  printed-said Place.space = space-read (space_of t.reference)
  printed-said Place.ref = reading-read t.reference w.reference-fits
  printed-said Place.test =
      let own = reading-read t.test w.test_fits in
      subst (λ (p : Space). Reads p (reading_text t.test) t.test) w.one_space own
