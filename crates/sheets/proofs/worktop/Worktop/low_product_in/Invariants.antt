use Rattle.arithmetic.specs.Truncating.{near}
use Rattle.sheets.specs.Worktops.{state}
use Rattle.sheets.specs.Working.{table}
use Rattle.sheets.proofs.Products.{Running}
use Rattle.sheets.proofs.worktop.Worktop.low_product_in.Given as goal

abbrev pub invariant-loop-i : goal.invariant-loop-i
invariant-loop-i g l = Running g.K.Ring.kind 9 (near (state l.initial.self).vars l.truncation.count l.truncation.most (table l.initial.self l.left.area)) (table l.initial.self l.right.area) l.initial.self l.self l.at l.i
