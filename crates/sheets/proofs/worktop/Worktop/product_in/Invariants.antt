use Rattle.sheets.specs.Working.{table}
use Rattle.sheets.proofs.Products.{Running, always}
use Rattle.sheets.proofs.worktop.Worktop.product_in.Given as goal

abbrev pub invariant-loop-i : goal.invariant-loop-i
invariant-loop-i g l = Running g.K.Ring.kind 10 (always (table l.initial.self l.left)) (table l.initial.self l.right) l.initial.self l.self l.at l.i
