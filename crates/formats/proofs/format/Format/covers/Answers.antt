use Rattle.std.proofs.Common.{rules, tests, nat_le, ◌∙◌}
use Rattle.std.proofs.lemmas.Iterator.Consumers.{YieldsList-from_first}
use Rattle.std.proofs.lemmas.Iterator.Search.{all_from_yields_List}
use Rattle.formats.specs.Drafts.{variables}
use Rattle.formats.specs.Keys.{field, places}
use Rattle.formats.proofs.Lists.{all-covers}
use Rattle.formats.proofs.format.Format.covers.Goals as goal

pub returns : goal.returns
returns c =
    let vs = variables c.args.self.now in
    all_from_yields_List (λ p. nat_le (field p.0 p.1 c.args.less) (field p.0 p.1 c.args.key)) _ _ _ c.all.ensures.ran
    (YieldsList-from_first (λ f. (f.shift, f.width)) (λ l. l) (places vs) cc) (λ x t q k. search (rules, tests))
    ∙ all-covers vs c.args.key c.args.less
