use Rattle.std.proofs.Common.{◌∷◌, decimal, sym, subst, arith}
use Rattle.std.proofs.lemmas.List.{at_drop_all}
use Rattle.texts.proofs.Widths.{numbers_length}
use Rattle.cards.proofs.Texts.{later, exponents-later, later-more}
use Rattle.cards.proofs.exponents.put_exponents.Goals as goal

pub loop-exponent-init : goal.loop-exponent-init
loop-exponent-init g c = λ end p. subst (λ l. g.S.Sink.puts c.args.sink.now l end) (sym (exponents-later c.args.list.now c.in-len1-up.len_at_least)) (g.met.S.Sink.laws.joined _ _ _ _ _ (subst (λ n. g.S.Sink.puts c.args.sink.now (decimal n) c.put_decimal.new.self) c.from.ensures c.put_decimal.ensures) p)

pub loop-exponent-preserved : goal.loop-exponent-preserved
loop-exponent-preserved g c = λ end p.
    let joined = g.met.S.Sink.laws.joined in
    c.loop-exponent.invariant end (subst (λ l. g.S.Sink.puts c.loop-exponent.sink l end) (sym (later-more _ c.loop-exponent.exponent-index c.loop-exponent-test.true)) (joined _ _ _ _ _ (subst (λ n. g.S.Sink.puts c.loop-exponent.sink (44 ∷ decimal n) c.put_next.new.self) c.from-in-loop-exponent.ensures c.put_next.ensures) p))

pub returns-clause-puts : goal.returns-clause-puts
returns-clause-puts g c = c.loop-exponent.invariant c.loop-exponent.sink (subst (λ l. g.S.Sink.puts c.loop-exponent.sink l c.loop-exponent.sink) (sym (at_drop_all later _ c.loop-exponent.exponent-index c.loop-exponent-test.false)) (g.met.S.Sink.laws.none _))

pub returns-clause-few : goal.returns-clause-few
returns-clause-few g c = numbers_length c.args.list.now (λ k. omega (arith, c.type_inv.list k))
