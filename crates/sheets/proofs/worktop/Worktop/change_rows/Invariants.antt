use Rattle.sheets.specs.Working.{table}
use Rattle.sheets.proofs.Changing.{Changing}
use Rattle.sheets.proofs.worktop.Worktop.change_rows.Given as goal

abbrev pub invariant-loop-i : goal.invariant-loop-i
invariant-loop-i g l = Changing (goal.F-post g l.change) l.to (table l.initial.self l.from.area) l.initial.self l.self l.i
