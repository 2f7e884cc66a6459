use Rattle.std.proofs.Common.{drop}
use Rattle.texts.specs.Decks.{exponents}
use Rattle.cards.proofs.Texts.{later}
use Rattle.cards.proofs.exponents.put_exponents.Given as goal

-- what is put after the later exponents makes, with what was put, all
abbrev pub invariant-loop-exponent : goal.invariant-loop-exponent
invariant-loop-exponent g l = (end : g.row.S.Denot) → g.S.Sink.puts l.sink (later (drop l.exponent-index l.rest)) end → g.S.Sink.puts l.fn.sink (exponents l.fn.list) end
