use Rattle.algebra.proofs.Dividing.{dividing}
use Rattle.algebra.proofs.leading_terms.Goals as goal

pub returns : goal.returns
returns g c = λ n whole. dividing g.K.Ring.kind.ops g.met.K.Ring.ring (g.met.K.Ring.wholeness whole) n
