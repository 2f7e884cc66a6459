use Rattle.std.proofs.Common.{◌≡◌, length}
use Rattle.sheets.specs.Desks.{Blank}
use Rattle.sheets.specs.Sheets.{state, rows_lent}
use Rattle.uses.specs.Performing.{call_of}
use Rattle.uses.proofs.Lists.{Turn}
use Rattle.uses.proofs.several.run.Given as goal

abbrev pub invariant-loop-i : goal.invariant-loop-i
invariant-loop-i g l = (Turn g.K.Ring.kind (call_of (length l.initial.output)) (state l.initial.sheet) l.call-items l.initial.output g.D.Divides.divides_by l.initial.answers l.i (state l.sheet) l.answers l.output) × ((Blank l.initial.sheet.desk → Blank l.sheet.desk) × (rows_lent l.sheet ≡ rows_lent l.initial.sheet))
