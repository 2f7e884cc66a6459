use Rattle.std.proofs.Common.{◌≡◌, drop}
use Rattle.limbozafe.specs.Numerals.{reads}
use Rattle.limbozafe.proofs.numbers.parse_natural.Given as goal

abbrev pub invariant-loop-byte : goal.invariant-loop-byte
invariant-loop-byte l = reads l.n (drop l.byte-index l.word) ≡ reads 0 l.word
