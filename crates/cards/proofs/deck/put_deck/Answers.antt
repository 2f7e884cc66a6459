use Rattle.std.proofs.Common.{sym, subst}
use Rattle.formats.specs.Drafts.{variables}
use Rattle.formats.proofs.Keys.{sound}
use Rattle.texts.proofs.Widths.{deck_length}
use Rattle.cards.proofs.Texts.{deck-more, deck-end}
use Rattle.cards.proofs.deck.put_deck.Goals as goal

pub loop-row-preserved : goal.loop-row-preserved
loop-row-preserved g c = λ end p.
    let more = deck-more g.K.Ring.kind (variables c.args.format.now) c.args.rows.now c.loop-row.row-index c.row-item.result c.loop-row-test.true c.row-item.is in
    c.loop-row.invariant end (subst (λ l. g.S.Sink.puts c.loop-row.sink l end) (sym more) (g.met.S.Sink.laws.joined _ _ _ _ _ c.put_card.ensures.puts p))

pub returns-clause-puts : goal.returns-clause-puts
returns-clause-puts g c =
    let all = deck-end g.K.Ring.kind (variables c.args.format.now) c.args.rows.now c.loop-row.row-index c.loop-row-test.false c.zero.result c.zero.ensures in
    c.loop-row.invariant c.put.new.self (subst (λ l. g.S.Sink.puts c.loop-row.sink l c.put.new.self) (sym all) (g.met.S.Sink.laws.joined _ _ _ _ _ c.put_figures.ensures.puts c.put.ensures))

pub returns-clause-few : goal.returns-clause-few
returns-clause-few g c = let m = g.met.K.Ring in deck_length g.K.Ring.kind m.values m.writing (variables c.args.format.now) (sound c.args.format.now) c.args.rows.now
