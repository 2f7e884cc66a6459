use Rattle.std.proofs.Common.{subst}
use Rattle.formats.specs.Drafts.{variables}
use Rattle.formats.proofs.Keys.{sound}
use Rattle.texts.specs.Decks.{exponents}
use Rattle.texts.proofs.Widths.{card_length}
use Rattle.cards.proofs.Texts.{unpacked}
use Rattle.cards.proofs.card.put_card.Goals as goal

pub returns-clause-puts : goal.returns-clause-puts
returns-clause-puts g c =
    let joined = g.met.S.Sink.laws.joined in
    let same = unpacked (variables c.args.format.now) c.args.row.key c.count.result c.unpack-exponents.result c.unpack-exponents.ensures.exponents c.count.ensures in
    let list = subst (λ l. g.S.Sink.puts c.put.new.self (exponents l) c.put_exponents.new.sink) same c.put_exponents.ensures.puts in
    joined _ _ _ _ _ c.put_figures.ensures.puts (joined _ _ _ _ _ c.put.ensures (joined _ _ _ _ _ list c.put-2.ensures))

pub returns-clause-few : goal.returns-clause-few
returns-clause-few g c = let m = g.met.K.Ring in card_length g.K.Ring.kind m.values m.writing (variables c.args.format.now) (sound c.args.format.now) c.args.row
