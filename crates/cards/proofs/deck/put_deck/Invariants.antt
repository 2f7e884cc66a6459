use Rattle.std.proofs.Common.{drop}
use Rattle.formats.specs.Drafts.{variables}
use Rattle.texts.specs.Decks.{deck}
use Rattle.cards.proofs.deck.put_deck.Given as goal

abbrev pub invariant-loop-row : goal.invariant-loop-row
invariant-loop-row g l =
    let K = g.K.Ring.kind in
    (end : g.row.S.Denot) → g.S.Sink.puts l.sink (deck K (variables l.format) (drop l.row-index l.rows)) end → g.S.Sink.puts l.fn.sink (deck K (variables l.format) l.rows) end
