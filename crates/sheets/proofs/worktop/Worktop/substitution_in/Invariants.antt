use Rattle.sheets.specs.Working.{table}
use Rattle.sheets.proofs.Substitutions.{Summing}
use Rattle.sheets.proofs.worktop.Worktop.substitution_in.Given as goal

abbrev pub invariant-loop-i : goal.invariant-loop-i
invariant-loop-i g l = Summing g.K.Ring.kind l.variable (table l.initial.self l.right.area) (table l.initial.self l.left.area) l.initial.self l.self l.i
