-- As many digits are put as the number has. Assumes nothing.
use Rattle.std.proofs.Common.{◌+◌, ℕ, ◌≡◌, sym, ap, ◌∙◌, arith, length}
use Rattle.text.specs.Decimal.{last_digits, whole_text}
use Rattle.text.proofs.Theorems.Decimal.Laws.{whole_length, whole_digit}
use Rattle.text.proofs.Theorems.Put.Laws.{room_as, puts_as, puts_byte}
use Rattle.text.proofs.decimal.put_whole.Goals as goal

all_digits : {k : ℕ} (n : ℕ) → k ≡ length (whole_text n) → last_digits k n ≡ whole_text n
all_digits n e = ap (λ (i : ℕ). last_digits i n) (e ∙ whole_length n)

pub bounds-dst-at : goal.bounds-dst-at
bounds-dst-at c =
    let room = room_as (whole_digit c.args.n (omega arith)) c.requires in
    omega (arith, room.room)

pub returns-then-n-lt10 : goal.returns-then-n-lt10
returns-then-n-lt10 c =
    let a = c.args in
    let one = whole_digit a.n (omega arith) in
    puts_as (sym one) (puts_byte a.dst.now a.at (48 + a.n) (room_as one c.requires))

pub put_digits-requires : goal.put_digits-requires
put_digits-requires c = room_as (sym (all_digits c.args.n c.whole_len.ensures.0)) c.requires

pub returns-else-n-lt10 : goal.returns-else-n-lt10
returns-else-n-lt10 c = puts_as (all_digits c.args.n c.whole_len.ensures.0) c.put_digits.ensures
