use Rattle.arithmetic.proofs.Quotienting.{exact_division_lem}
use Rattle.arithmetic.proofs.exact_division.Goals as goal

pub returns : goal.returns
returns g c = λ vs n sound whole. exact_division_lem g.K.Ring.kind g.K.Domain.quotient g.met.K.Ring.ring g.met.K.Ring.values g.met.K.Domain.division (g.met.K.Ring.wholeness whole) vs n sound.narrow
