use Rattle.std.proofs.Common.{rules}
use Rattle.formats.specs.Drafts.{variables}
use Rattle.formats.proofs.Places.{exponent_place}
use Rattle.formats.proofs.format.Format.exponent.Goals as goal

pub returns : goal.returns
returns c = rw (exponent_place (variables c.args.self.now) c.args.key c.args.variable c.field.result c.field.ensures) (search rules)
