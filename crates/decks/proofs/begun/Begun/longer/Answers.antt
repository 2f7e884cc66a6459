use Rattle.std.proofs.Common.{arith}
use Rattle.decks.proofs.Values.{small_size}
use Rattle.decks.proofs.begun.Begun.longer.Goals as goal

pub overflow_mul-result : goal.overflow_mul-result
overflow_mul-result c = grind (arith, small_size c.args.self)

pub overflow_add-result-2 : goal.overflow_add-result-2
overflow_add-result-2 c = grind (arith, small_size c.args.self)
