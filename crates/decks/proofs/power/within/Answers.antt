use Rattle.std.proofs.Common.{arith}
use Rattle.formats.proofs.Keys.{sound}
use Rattle.decks.proofs.Fields.{masked}
use Rattle.decks.proofs.power.within.Goals as goal

pub returns : goal.returns
returns c = grind (arith, masked, sound c.args.format.now)
