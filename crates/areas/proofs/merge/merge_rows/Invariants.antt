use Rattle.std.proofs.Common.{◌+◌, length, None}
use Rattle.areas.specs.Merging.{giving, unread}
use Rattle.areas.proofs.Merges.{Merging}
use Rattle.areas.proofs.merge.merge_rows.Given as goal

abbrev pub invariant-loop-merge : goal.invariant-loop-merge
invariant-loop-merge g l = Merging g.K.Ring.kind (giving g.K.Ring.kind l.fn.factor None l.fn.left l.fn.right) (length l.fn.left + length l.fn.right) l.fn.out l.out l.merge l.count

abbrev pub decreases-loop-merge : goal.decreases-loop-merge
decreases-loop-merge g l = unread l.merge + length l.merge.right.now
