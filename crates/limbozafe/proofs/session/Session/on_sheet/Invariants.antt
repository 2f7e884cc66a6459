use Rattle.std.proofs.Common.{◌≤◌, length}
use Rattle.limbozafe.proofs.session.Session.on_sheet.Given as goal

abbrev pub invariant-loop-lent : goal.invariant-loop-lent
invariant-loop-lent g l = length l.self.script.rest.now ≤ length l.initial.self.script.rest.now

abbrev pub decreases-loop-lent : goal.decreases-loop-lent
decreases-loop-lent g l = length l.self.script.rest.now
