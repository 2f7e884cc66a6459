use Rattle.std.proofs.Common.{◌-◌, length, drop}
use Rattle.areas.specs.Areas.{contents}
use Rattle.sheets.specs.Working.{table}
use Rattle.sheets.proofs.Divisions.{Division}
use Rattle.sheets.proofs.worktop.Worktop.quotient_in.Given as goal

abbrev pub invariant-loop-first : goal.invariant-loop-first
invariant-loop-first g l = Division g.K.Ring.kind g.K.Domain.quotient l.by (drop 1 (table l.initial.self l.right.area)) l.initial.self l.self l.at

abbrev pub decreases-loop-first : goal.decreases-loop-first
decreases-loop-first g l = (contents l.self.areas).room - length (table l.self 8)
