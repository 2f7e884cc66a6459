use Rattle.std.proofs.Common.{◌+◌, length, cond}
use Rattle.std.specs.Option.{is_some}
use Rattle.limbozafe.proofs.session.run.Given as goal

abbrev pub decreases-loop-next : goal.decreases-loop-next
decreases-loop-next l = cond (is_some l.next) (length l.session.script.rest.now + 1) 0
