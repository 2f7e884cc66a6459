use Rattle.std.proofs.Common.{◌<◌, ltb, length, sym, ap, ◌∙◌, arith}
use Rattle.std.proofs.lemmas.Bool.{lt-ltb, cond-true}
use Rattle.formats.specs.Drafts.{variables}
use Rattle.formats.specs.Exponents.{placed}
use Rattle.formats.specs.Keys.{packed}
use Rattle.formats.proofs.Lists.{packed-placed}
use Rattle.formats.proofs.format.Format.replace.Goals as goal

pub returns : goal.returns
returns c =
    let vs = variables c.args.self.now in
    let within : c.args.variable < length vs = omega (arith, c.count.ensures, c.if-variable-count.false) in
    c.pack.ensures.key
    ∙ ap (λ l. packed vs (placed c.args.variable c.args.exponent l)) c.unpack-exponents.ensures.exponents
    ∙ packed-placed vs c.args.key c.args.variable c.args.exponent _ within
    ∙ sym (cond-true (ltb c.args.variable (length vs)) _ _ (lt-ltb c.args.variable (length vs) within))
