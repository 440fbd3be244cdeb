-- v has as many digits as bytes are read, and the rest of s goes on from it. Assumes nothing.
use Rattle.std.proofs.Common.{◌≡◌, ◌^◌, ◌<◌}
use Rattle.std.specs.Prelude.{drop}
use Rattle.text.specs.Number.{numeral}
use Rattle.text.proofs.number.value_of_digits.Given as goal

abbrev pub invariant-loop-b : goal.invariant-loop-b
invariant-loop-b l = record {
  goes_on : numeral 0 l.s ≡ numeral l.v (drop l.b-index l.s);
  small : l.v < 10 ^ l.b-index;
}
