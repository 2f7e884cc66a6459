use Rattle.std.proofs.Common.{◌≡◌, [], sym, ap, ◌∙◌, arith}
use Rattle.rows.specs.Tables.{consed}
use Rattle.areas.specs.Merging.{giving}
use Rattle.areas.proofs.Steps.{left_only}
use Rattle.areas.proofs.Merges.{no_rows}
use Rattle.areas.proofs.step.Merge.find_head.Goals as goal

pub returns-clause-next : goal.returns-clause-next
returns-clause-next g c =
    let K = g.K.Ring.kind in
    let m = c.args.self.now in
    let a = c.in-Some-split_first.a.now in
    let rest = c.in-Some-split_first.rest.now in
    let end : m.right.now ≡ [] = no_rows m.right.now (omega (arith, c.in_default.ensures.cases)) in
    (λ i. giving K m.factor (c.requires.none i) (c.in-Some-split_first.ensures.cases.0 i) (end i)) ∙ left_only K m.factor rest a ∙ ap (consed a) (sym (λ i. giving K m.factor (c.requires.none i) rest (end i)))
