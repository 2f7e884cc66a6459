use Rattle.std.proofs.Common.{◌+◌, Ok, refl, ap, ◌∙◌, arith}
use Rattle.sheets.specs.Running.{running}
use Rattle.cards.proofs.Turning.{working-none, working-more, byte-refused, byte_turn, end_refused, end_turn, refused_shown, through-fits}
use Rattle.cards.proofs.reading.read_deck.Goals as goal

pub loop-i-init : goal.loop-i-init
loop-i-init g c = (working-none g.K.Ring.kind c.args.desk.now c.args.text.now c.new-card.result c.new-card.ensures c.requires, refl)

pub returns-in_err-step-clause-answer : goal.returns-in_err-step-clause-answer
returns-in_err-step-clause-answer g c = refused_shown c.from_residual.result _ c.from_residual.ensures ∙ byte-refused c.loop-i.invariant.0 c.step.result c.loop-i-test.true c.step.ensures c.in_err-step.was

pub returns-in_err-next-clause-answer : goal.returns-in_err-next-clause-answer
returns-in_err-next-clause-answer g c = refused_shown c.from_residual-in_err-next.result _ c.from_residual-in_err-next.ensures ∙ byte_turn c.loop-i.invariant.0 c.step.result c.loop-i-test.true c.step.ensures c.in_ok-step.was c.term.new.desk c.term.ensures.answer c.in_err-next.was

pub overflow_add-result : goal.overflow_add-result
overflow_add-result g c = record { fits = omega (arith, through-fits c.args.text.now c.loop-i.i c.loop-i.invariant.0.low, c.through.ensures) }

pub returns-in_default-clause-answer : goal.returns-in_default-clause-answer
returns-in_default-clause-answer g c =
    ap (λ n. Ok (record { bytes = c.loop-i.i + n; table = running c.term.new.desk })) c.through.ensures
    ∙ byte_turn c.loop-i.invariant.0 c.step.result c.loop-i-test.true c.step.ensures c.in_ok-step.was c.term.new.desk c.term.ensures.answer (c.in_ok-next.was ∙ ap Ok c.in_default.is)

pub loop-i-preserved : goal.loop-i-preserved
loop-i-preserved g c = (working-more c.loop-i.invariant.0 c.step.result c.loop-i-test.true c.step.ensures c.in_ok-step.was c.term.new.desk c.term.ensures.answer (c.in_ok-next.was ∙ ap Ok c.in-Some.is) c.term.ensures.leaves c.term.ensures.falling, c.term.ensures.long ∙ c.loop-i.invariant.1)

pub returns-in_err-step-2-clause-answer : goal.returns-in_err-step-2-clause-answer
returns-in_err-step-2-clause-answer g c = refused_shown c.from_residual-in_err-step-2.result _ c.from_residual-in_err-step-2.ensures ∙ end_refused c.loop-i.invariant.0 c.close.result c.loop-i-test.false c.close.ensures c.in_err-step-2.was

pub returns-in_err-term-clause-answer : goal.returns-in_err-term-clause-answer
returns-in_err-term-clause-answer g c = refused_shown c.from_residual-in_err-term.result _ c.from_residual-in_err-term.ensures ∙ end_turn c.loop-i.invariant.0 c.close.result c.loop-i-test.false c.close.ensures c.in_ok-step-2.was c.term-2.new.desk c.term-2.ensures.answer c.in_err-term.was

pub returns-in-None-clause-answer : goal.returns-in-None-clause-answer
returns-in-None-clause-answer g c = end_turn c.loop-i.invariant.0 c.close.result c.loop-i-test.false c.close.ensures c.in_ok-step-2.was c.term-2.new.desk c.term-2.ensures.answer (c.in_ok-term.was ∙ ap Ok c.in-None.is)

pub returns-in-Some-2-clause-answer : goal.returns-in-Some-2-clause-answer
returns-in-Some-2-clause-answer g c = end_turn c.loop-i.invariant.0 c.close.result c.loop-i-test.false c.close.ensures c.in_ok-step-2.was c.term-2.new.desk c.term-2.ensures.answer (c.in_ok-term.was ∙ ap Ok c.in-Some-2.is)
