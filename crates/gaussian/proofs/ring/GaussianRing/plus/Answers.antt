use Rattle.std.proofs.Common.{◌≡◌, ◌∙◌, arith}
use Rattle.rings.specs.Gaussian.{sum}
use Rattle.gaussian.specs.Gaussian.{valued}
use Rattle.gaussian.specs.Member.{meant}
use Rattle.gaussian.proofs.Words.{small-sum}
use Rattle.gaussian.proofs.ring.GaussianRing.plus.Goals as goal

pub returns : goal.returns
returns c =
    let total : c.try_from.result ≡ valued (sum (meant c.from-z.result) (meant c.from-w.result)) = grind (arith, small-sum) in
    total ∙ (λ i. valued (sum (c.from-z.ensures i) (c.from-w.ensures i)))
