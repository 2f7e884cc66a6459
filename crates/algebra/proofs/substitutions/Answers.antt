use Rattle.algebra.proofs.substitutions.Goals as goal
use Rattle.algebra.proofs.Substituting.{substituting}

pub returns : goal.returns
returns g c n v q inside = substituting g.K.Ring.kind.ops g.met.K.Ring.ring n v inside q
