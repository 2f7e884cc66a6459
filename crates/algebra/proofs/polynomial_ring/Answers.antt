use Rattle.algebra.proofs.polynomial_ring.Goals as goal
use Rattle.algebra.proofs.Products.{polynomials}

pub returns : goal.returns
returns g c = polynomials g.K.Ring.kind.ops g.met.K.Ring.ring
