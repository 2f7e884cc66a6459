use Rattle.std.proofs.Common.{◌<◌, ◌^◌, take, rules, ◌∙◌, subst, sym}
use Rattle.std.proofs.lemmas.Iterator.{YieldsList-from_map, YieldsList-from_take}
use Rattle.std.proofs.lemmas.Iterator.Consumers.{YieldsList-from_first, YieldsList-at, sum_by_from_yields_List, fits_by_from_yields_list}
use Rattle.formats.specs.Drafts.{variables}
use Rattle.formats.specs.Keys.{field, places}
use Rattle.formats.proofs.Lists.{sum-degree, degree-fits}
use Rattle.formats.proofs.format.Format.degree.Goals as goal

pub sum-requires-clause-fits : goal.sum-requires-clause-fits
sum-requires-clause-fits c =
    let vs = variables c.args.self.now in
    fits_by_from_yields_list (λ p. field p.0 p.1 c.args.key) (take c.args.count (places vs)) c.map.result _
    (YieldsList-from_map _ (λ p. field p.0 p.1 c.args.key) (YieldsList-at c.map.ensures.source (YieldsList-from_take c.args.count (YieldsList-from_first (λ f. (f.shift, f.width)) (λ l. l) (places vs) cc) cc)) c.map.ensures.closure (λ x r q k. search rules))
    (subst (λ n. n < 2 ^ 32) (sym (sum-degree vs c.args.key c.args.count)) (degree-fits c.args.self.now c.args.key c.args.count))

pub returns : goal.returns
returns c =
    let vs = variables c.args.self.now in
    sum_by_from_yields_List (λ p. field p.0 p.1 c.args.key) (take c.args.count (places vs)) c.map.result c.sum.result c.sum.ensures.ran
    (YieldsList-from_map _ (λ p. field p.0 p.1 c.args.key) (YieldsList-at c.map.ensures.source (YieldsList-from_take c.args.count (YieldsList-from_first (λ f. (f.shift, f.width)) (λ l. l) (places vs) cc) cc)) c.map.ensures.closure (λ x r q k. search rules))
    ∙ sum-degree vs c.args.key c.args.count
