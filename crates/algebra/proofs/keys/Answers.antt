use Rattle.algebra.proofs.Packing.{packing}
use Rattle.algebra.proofs.keys.Goals as goal

pub returns : goal.returns
returns c = packing
