use Rattle.std.proofs.Common.{◌≡◌, ◌∷◌, Err, drop, sym, ap, ◌∙◌, arith}
use Rattle.std.proofs.lemmas.Result.{err_from_is_err_and}
use Rattle.areas.specs.Merging.{giving}
use Rattle.areas.proofs.Steps.{first-rest, equal-refused}
use Rattle.areas.proofs.step.Merge.step.Goals as goal

pub returns-in_err-coefficient-clause-next :
    goal.returns-in_err-coefficient-clause-next
returns-in_err-coefficient-clause-next g c =
    let p = err_from_is_err_and c.from_residual.result c.from_residual.ensures.1 in
    let m = c.args.self.now in
    let a = c.in-Some-first.a.now in
    let b = c.in-Some.b in
    let same : a.key ≡ b.key = omega arith in
    let split : m.left.now ≡ a ∷ drop 1 m.left.now = first-rest m.left.now a c.in-Some-first.ensures.value in
    rw p.1 ((λ i. giving g.K.Ring.kind m.factor (c.in-Some.is i) (split i) m.right.now) ∙ equal-refused g.K.Ring.kind m.factor (drop 1 m.left.now) m.right.now b a g.met.K.Ring.values same _ (sym c.plus.ensures ∙ c.in_err-coefficient.was) ∙ ap Err (sym p.2))
