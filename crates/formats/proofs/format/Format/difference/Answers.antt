use Rattle.std.proofs.Common.{◌∙◌, rules}
use Rattle.std.proofs.lemmas.Option.{IfSome_then}
use Rattle.formats.specs.Drafts.{variables}
use Rattle.formats.proofs.Lists.{difference-le, difference-is}
use Rattle.formats.proofs.format.Format.difference.Goals as goal

pub then-requires : goal.then-requires
then-requires c = search (rules, difference-le)

pub returns : goal.returns
returns c = difference-is (variables c.args.self.now) c.args.key c.args.less c.then.result (c.then.ensures.variant ∙ c.covers.ensures) (IfSome_then c.then.result c.then.ensures.some (λ d h. search rules))
