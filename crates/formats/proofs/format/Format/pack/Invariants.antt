use Rattle.std.specs.Slice.Iter.{iter_rest}
use Rattle.std.specs.Iterator.Adapters.{zip_first, zip_second}
use Rattle.formats.specs.Drafts.{variables}
use Rattle.formats.proofs.Turns.{Packing}
use Rattle.formats.proofs.format.Format.pack.Given as goal

abbrev pub invariant-loop-variable : goal.invariant-loop-variable
invariant-loop-variable l = Packing (variables l.self) l.exponents (iter_rest (zip_first l.variable-iterator)) (iter_rest (zip_second l.variable-iterator)) l.key
