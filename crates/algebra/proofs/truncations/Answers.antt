use Rattle.algebra.proofs.truncations.Goals as goal
use Rattle.algebra.proofs.Truncating.{truncating}

pub returns : goal.returns
returns g c = truncating g.K.Ring.kind.ops g.met.K.Ring.ring
