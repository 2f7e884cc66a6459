use Rattle.algebra.proofs.Tabling.{tabling}
use Rattle.algebra.proofs.rows_of_polynomials.Goals as goal

pub returns : goal.returns
returns g c = λ vs. tabling g.K.Ring.kind g.met.K.Ring.ring vs g.met.K.Ring.values
