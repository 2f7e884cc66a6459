use Rattle.std.proofs.Common.{arith}
use Rattle.std.proofs.lemmas.Int.{ints}
use Rattle.decks.proofs.Values.{small_size}
use Rattle.decks.proofs.number.NumberFromBegun.from.Goals as goal

pub overflow_cast-size : goal.overflow_cast-size
overflow_cast-size c = grind (arith, ints, small_size c.args.number)

pub overflow_sub-result : goal.overflow_sub-result
overflow_sub-result c = grind (arith, ints, small_size c.args.number)

pub returns-then-number : goal.returns-then-number
returns-then-number c = grind (arith, ints, small_size c.args.number)

pub returns-else-number : goal.returns-else-number
returns-else-number c = grind (arith, ints, small_size c.args.number)
