use Rattle.std.proofs.Common.{◌≡◌, ◌+◌, ◌/◌, length, decimal, sym, ap, ◌∙◌, arith}
use Rattle.std.proofs.lemmas.Fmt.{decimal_digit, decimal_step, length-decimal-le}
use Rattle.std.proofs.lemmas.List.{length_push}
use Rattle.cards.proofs.room.+decimal_len.Goals as goal

pub returns-then-n-lt10 : goal.returns-then-n-lt10
returns-then-n-lt10 t c = record { len = sym (ap length (decimal_digit c.args.n c.if-n-lt10.true)); few = omega arith }

pub returns-else-n-lt10 : goal.returns-else-n-lt10
returns-else-n-lt10 t c =
    let h = c.ranges.n.fits in
    let step : length (decimal c.args.n) ≡ length (decimal (c.args.n / 10)) + 1 = ap length (decimal_step c.args.n c.if-n-lt10.false h) ∙ length_push (decimal (c.args.n / 10)) _ in
    let few = length-decimal-le 20 c.args.n (omega arith) (omega arith) h in
    let e = c.decimal_len.ensures.len in
    record { len = omega arith; few = omega arith }
