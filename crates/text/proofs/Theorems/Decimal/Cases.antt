-- A few figures, by computation, under one theorem. No proof cites this. Assumes nothing.
use Rattle.std.specs.Prelude.{◌≡◌, refl, Bool, true, false, List, ℕ, ◌^◌, ◌-◌}
use Rattle.text.specs.Ascii.{ascii}
use Rattle.text.specs.Decimal.{shown, last_digits, width_in, decimal_text, with_places, shown_as}

-- units of 2 ^ -20 with four places
abbrev figure : (below : Bool) (m : ℕ) → List ℕ
figure below m = decimal_text (shown_as 4 (2 ^ 20) below m)

pub record DecimalCases : Type 0 where
  -- case 7 of SCOPE 12.1, 0.91885..
  pub case_7 : figure false 963487 ≡ ascii "0.9189"
  pub ten : decimal_text (with_places 3 false 10000) ≡ ascii "10.000"
  pub minus_one : figure true (2 ^ 20) ≡ ascii "-1.0000"
  -- -0.0000495.. shows no digit but zeros, so no minus; -0.0000505.. shows another
  pub minus_lost : figure true 52 ≡ ascii "0.0000"
  pub minus-kept : figure true 53 ≡ ascii "-0.0001"
  -- 1/32 is midway between two last digits
  pub tie : figure false 32768 ≡ ascii "0.0313"
  pub tie_below : figure true 32768 ≡ ascii "-0.0313"
  -- 9.99996 and 99.99996: the carry adds a digit
  pub carry : figure false 10485718 ≡ ascii "10.0000"
  pub carry-again : figure false 104857558 ≡ ascii "100.0000"
  pub greatest : decimal_text (with_places 3 false (2 ^ 64 - 1)) ≡ ascii "18446744073709551.615"

pub decimal_cases : DecimalCases
unfolding decimal_text shown width_in last_digits
decimal_cases = record {
  case_7 = refl;
  ten = refl;
  minus_one = refl;
  minus_lost = refl;
  minus-kept = refl;
  tie = refl;
  tie_below = refl;
  carry = refl;
  carry-again = refl;
  greatest = refl;
}
