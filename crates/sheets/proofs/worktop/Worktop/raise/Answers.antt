use Rattle.std.proofs.Common.{Err, sym, refl, ap, ◌∙◌, subst, arith}
use Rattle.std.proofs.lemmas.Result.{err_from_is_err_and}
use Rattle.sheets.specs.Ends.{Making, made_in}
use Rattle.sheets.specs.Working.{table}
use Rattle.sheets.proofs.States.{with_areas}
use Rattle.sheets.proofs.Products.{kept-stored}
use Rattle.sheets.proofs.Substitutions.{raising_none, raising_more, raising_refused, raising_all}
use Rattle.sheets.proofs.worktop.Worktop.raise.Goals as goal

pub loop-init : goal.loop-init
loop-init g c = let s = c.args.self.now in raising_none g.K.Ring.kind (table s c.args.right.area) (table s 9) s refl

pub returns-in_err-at : goal.returns-in_err-at
returns-in_err-at g c =
    let K = g.K.Ring.kind in
    let s = c.args.self.now in
    let u = c.product_in.new.self in
    let refused = raising_refused K (table s c.args.right.area) (table s 9) s c.args.right.area (omega arith) refl c.loop.self u c.loop.counter c.loop.invariant c.product_in.result c.product_in.ensures c.in_err-at.field-0.0 c.in_err-at.was c.args.power c.loop-test.true in
    let p = err_from_is_err_and c.from_residual.result c.from_residual.ensures.1 in
    subst (Making 9 s u _) (sym (ap (made_in 9) (p.1 ∙ ap Err p.2))) refused

pub loop-preserved : goal.loop-preserved
loop-preserved g c =
    let K = g.K.Ring.kind in
    let s = c.args.self.now in
    let u = c.product_in.new.self in
    let v = with_areas u c.copy.new.self in
    raising_more K (table s c.args.right.area) (table s 9) s c.args.right.area (omega arith) refl c.loop.self u c.loop.counter c.loop.invariant c.product_in.result c.product_in.ensures c.in_ok-at.at c.in_ok-at.was v c.copy.ensures.leaves (kept-stored u v 9 _ c.copy.ensures.leaves refl)

pub returns : goal.returns
returns g c = let s = c.args.self.now in raising_all g.K.Ring.kind (table s c.args.right.area) (table s 9) s c.loop.self c.loop.counter c.args.power c.loop.invariant (omega arith)
