use Rattle.std.proofs.Common.{◌≡◌, pos, ◌*ℤ◌, arith, sym, ap, ◌∙◌}
use Rattle.std.proofs.lemmas.Grind.{common_steps}
use Rattle.rings.proofs.Whole.{copies-times}
use Rattle.integers.specs.Integers.{held, valued}
use Rattle.integers.proofs.IntegerRing.multiple.Goals as goal

pub returns : goal.returns
returns c =
    let product : c.try_from.result ≡ valued (pos c.args.n *ℤ held c.args.self) = grind (arith, common_steps) in
    product ∙ ap valued (sym (copies-times c.args.n (held c.args.self)))
