use Rattle.std.proofs.Common.{sym, subst, arith, w64, SFits, rules}
use Rattle.texts.proofs.Widths.{figures_length}
use Rattle.cards.proofs.Texts.{figures_two}
use Rattle.cards.proofs.figures.put_figures.Goals as goal

pub returns-then-figure_count-ne1-clause-puts : goal.returns-then-figure_count-ne1-clause-puts
returns-then-figure_count-ne1-clause-puts g c =
    let joined = g.met.S.Sink.laws.joined in
    let a : SFits w64 c.figures-first.result.0 = search rules in
    let b : SFits w64 c.figures-first.result.1 = search rules in
    let text = figures_two g.K.Ring.kind c.args.value c.figure_count.result c.figures-first.result c.figure_count.ensures c.if-figure_count-ne1.true c.figures-first.ensures a b in
    subst (λ l. g.S.Sink.puts c.args.sink.now l c.put_figure-then-figure_count-ne1.new.self) (sym text) (joined _ _ _ _ _ c.put_figure.ensures (joined _ _ _ _ _ c.put.ensures c.put_figure-then-figure_count-ne1.ensures))

pub returns-then-figure_count-ne1-clause-few : goal.returns-then-figure_count-ne1-clause-few
returns-then-figure_count-ne1-clause-few g c = let m = g.met.K.Ring in omega (arith, figures_length g.K.Ring.kind m.writing c.args.value (m.values.contents c.args.value))

pub returns-else-figure_count-ne1-clause-few : goal.returns-else-figure_count-ne1-clause-few
returns-else-figure_count-ne1-clause-few g c = let m = g.met.K.Ring in omega (arith, figures_length g.K.Ring.kind m.writing c.args.value (m.values.contents c.args.value))
