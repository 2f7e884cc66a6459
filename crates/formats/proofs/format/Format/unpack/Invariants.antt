use Rattle.std.specs.Iterator.Adapters.{enumerate_source, enumerate_count}
use Rattle.formats.specs.Drafts.{variables}
use Rattle.formats.proofs.Turns.{Unpacking}
use Rattle.formats.proofs.format.Format.unpack.Given as goal

abbrev pub invariant-loop-i : goal.invariant-loop-i
invariant-loop-i l = Unpacking (variables l.self) l.key l.exponents (enumerate_count l.i-iterator) (enumerate_source l.i-iterator)
