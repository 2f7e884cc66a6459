use Rattle.algebra.proofs.closed.Goals as goal
use Rattle.algebra.proofs.Finite.{closing}

pub returns : goal.returns
returns g c = closing g.K.Ring.kind.ops g.met.K.Ring.ring
