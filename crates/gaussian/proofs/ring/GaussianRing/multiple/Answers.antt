use Rattle.std.proofs.Common.{◌≡◌, nat_abs, sym, ap, ◌∙◌, arith}
use Rattle.rings.specs.Gaussian.{scaled}
use Rattle.rings.proofs.Gaussian.{copies-scaled}
use Rattle.gaussian.specs.Gaussian.{Below, valued, held}
use Rattle.gaussian.specs.Member.{meant}
use Rattle.gaussian.proofs.Words.{below-bits, same-product}
use Rattle.gaussian.proofs.ring.GaussianRing.multiple.Goals as goal

pub returns : goal.returns
returns c =
    let few : Below 30 c.from-n.result = let e = ap nat_abs c.from-n.ensures in let h = c.ranges.n.fits in omega arith in
    let product : c.try_from.result ≡ valued (scaled c.from-n.result (meant c.from-z.result)) = grind (arith, below-bits, same-product) in
    product
    ∙ (λ i. valued (scaled (c.from-n.ensures i) (c.from-z.ensures i)))
    ∙ ap valued (sym (copies-scaled c.args.n (held c.args.self)))
