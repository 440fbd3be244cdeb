-- The digits from j on stand where they belong, and n without them is left. Assumes nothing.
use Rattle.std.proofs.Common.{◌≡◌, ◌+◌, ◌-◌, ◌/◌, ◌^◌}
use Rattle.text.specs.Put.{put_at}
use Rattle.text.specs.Decimal.{last_digits}
use Rattle.text.proofs.decimal.put_digits.Given as goal

abbrev pub invariant-loop-j : goal.invariant-loop-j
invariant-loop-j l = record {
  done : l.dst ≡ put_at l.fn.dst (l.at + l.j) (last_digits (l.k - l.j) l.n);
  rest : l.left ≡ l.n / 10 ^ (l.k - l.j);
}
