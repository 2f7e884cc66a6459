use Rattle.std.proofs.Common.{length}
use Rattle.limbozafe.proofs.session.Session.before_sheet.Given as goal

abbrev pub decreases-loop-asked : goal.decreases-loop-asked
decreases-loop-asked l = length l.self.script.rest.now
