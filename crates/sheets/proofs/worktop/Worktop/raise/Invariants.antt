use Rattle.sheets.specs.Working.{table}
use Rattle.sheets.proofs.Substitutions.{Raising}
use Rattle.sheets.proofs.worktop.Worktop.raise.Given as goal

abbrev pub invariant-loop : goal.invariant-loop
invariant-loop g l = Raising g.K.Ring.kind (table l.initial.self l.right.area) (table l.initial.self 9) l.initial.self l.self l.counter
