use Rattle.algebra.proofs.derivatives.Goals as goal
use Rattle.algebra.proofs.Deriving.{differentiating}

pub returns : goal.returns
returns g c = differentiating g.K.Ring.kind.ops g.met.K.Ring.ring
