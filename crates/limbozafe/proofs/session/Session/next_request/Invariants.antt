use Rattle.std.proofs.Common.{◌≤◌, length}
use Rattle.limbozafe.proofs.session.Session.next_request.Given as goal

abbrev pub invariant-loop-line : goal.invariant-loop-line
invariant-loop-line l = length l.self.script.rest.now ≤ length l.initial.self.script.rest.now

abbrev pub decreases-loop-line : goal.decreases-loop-line
decreases-loop-line l = length l.self.script.rest.now
