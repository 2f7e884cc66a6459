use Rattle.std.proofs.Common.{rules, tests, arith, ◌∙◌}
use Rattle.std.proofs.lemmas.Iterator.{YieldsList-from_slice, YieldsList-from_zip}
use Rattle.std.proofs.lemmas.Iterator.Consumers.{YieldsList-from_first}
use Rattle.std.proofs.lemmas.Iterator.Search.{all_from_yields_List}
use Rattle.formats.specs.Drafts.{variables}
use Rattle.formats.specs.Keys.{places}
use Rattle.formats.proofs.Keys.{sound}
use Rattle.formats.proofs.Lists.{fits, all-within, within_take}
use Rattle.formats.proofs.format.Format.allows.Goals as goal

pub returns : goal.returns
returns c =
    let vs = variables c.args.self.now in
    all_from_yields_List (fits c.args.key) c.all.new.self _ _ c.all.ensures.ran
    (YieldsList-from_zip (YieldsList-from_first (λ f. (f.shift, f.width)) (λ l. l) (places vs) cc) (YieldsList-from_slice c.args.most.now cc)) (λ x t q k. search (rules, tests))
    ∙ all-within vs c.args.most.now c.args.key (let s = sound c.args.self.now in omega (arith, s.few))
    ∙ within_take vs c.args.most.now c.args.key
