use Rattle.arithmetic.proofs.Meaning.{table_arithmetic_lem}
use Rattle.arithmetic.proofs.table_arithmetic.Goals as goal

pub returns : goal.returns
returns g c = table_arithmetic_lem g.K.Ring.kind g.met.K.Ring.ring g.met.K.Ring.values
