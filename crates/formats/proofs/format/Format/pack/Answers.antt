use Rattle.std.proofs.Common.{Ok, arith}
use Rattle.std.proofs.lemmas.Grind.{common_steps}
use Rattle.formats.specs.Drafts.{variables}
use Rattle.formats.proofs.Keys.{packed-back}
use Rattle.formats.proofs.Turns.{packing_fits, packing_more}
use Rattle.formats.proofs.format.Format.pack.Goals as goal

pub overflow_add-key : goal.overflow_add-key
overflow_add-key c =
    let i = rw c.in-Some.ensures.steps.0 at c.loop-variable.invariant in
    record { fits = packing_fits _ _ _ _ _ _ _ i c.if-exponent-variable-ne0.false }

pub loop-variable-preserved : goal.loop-variable-preserved
loop-variable-preserved c =
    let i = rw c.in-Some.ensures.steps.0 at c.loop-variable.invariant in
    packing_more _ _ _ _ _ _ _ i c.if-exponent-variable-ne0.false _ (rw c.from-exponent.ensures c.in-Some.ensures.steps.1)

pub returns-clause-back : goal.returns-clause-back
returns-clause-back c = packed-back (variables c.args.self.now) c.args.exponents.now (Ok c.loop-variable.key) (grind (arith, common_steps))
