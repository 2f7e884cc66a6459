use Rattle.std.proofs.Common.{rules}
use Rattle.formats.specs.Drafts.{variables}
use Rattle.formats.proofs.Places.{unit_place}
use Rattle.formats.proofs.format.Format.unit.Goals as goal

pub returns : goal.returns
returns c = rw (unit_place (variables c.args.self.now) c.args.variable c.field.result c.field.ensures) (search rules)
