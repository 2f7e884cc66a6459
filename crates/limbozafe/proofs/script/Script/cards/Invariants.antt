use Rattle.std.proofs.Common.{◌≡◌, ◌≤◌, length, drop}
use Rattle.limbozafe.proofs.Points.{CutBefore}
use Rattle.limbozafe.proofs.script.Script.cards.Given as goal

abbrev pub invariant-loop-line : goal.invariant-loop-line
invariant-loop-line l =
    record {
      left : drop l.length l.text ≡ l.self.rest.now;
      within : l.length ≤ length l.text;
      cut : CutBefore l.text l.length l.self.rest.now;
    }

abbrev pub decreases-loop-line : goal.decreases-loop-line
decreases-loop-line l = length l.self.rest.now
