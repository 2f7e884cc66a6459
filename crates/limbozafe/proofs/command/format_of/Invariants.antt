use Rattle.std.proofs.Common.{length}
use Rattle.limbozafe.specs.Words.{words}
use Rattle.limbozafe.proofs.command.format_of.Given as goal

abbrev pub decreases-loop-word : goal.decreases-loop-word
decreases-loop-word l = length (words l.words.0.now)
