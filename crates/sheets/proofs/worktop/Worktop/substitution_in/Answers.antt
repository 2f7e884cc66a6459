use Rattle.std.proofs.Common.{[], length, get_or, Err, sym, refl, ap, ◌∙◌, subst, arith}
use Rattle.std.proofs.lemmas.Result.{err_from_is_err_and}
use Rattle.areas.specs.Areas.{contents}
use Rattle.sheets.specs.Worktops.{state}
use Rattle.sheets.specs.Ends.{Making}
use Rattle.sheets.specs.Working.{table, below, but}
use Rattle.sheets.proofs.States.{with_areas, table-there}
use Rattle.arithmetic.specs.Substituting.{substituted}
use Rattle.sheets.proofs.Products.{kept_fewer, kept-stored, making_after}
use Rattle.sheets.proofs.Substitutions.{summing_none, summing_more, summing_refused, summing_all}
use Rattle.sheets.proofs.worktop.Worktop.substitution_in.Goals as goal

pub loop-i-init : goal.loop-i-init
loop-i-init g c =
    let s = c.args.self.now in
    let start = with_areas s c.clear.new.self in
    summing_none g.K.Ring.kind c.args.variable (table start c.args.right.area) (table start c.args.left.area) start (ap (λ d. d.tables 8) c.clear.ensures.leaves ∙ table-there (contents s.areas) 8 [] (omega arith))

pub returns-in_err-add_term : goal.returns-in_err-add_term
returns-in_err-add_term g c =
    let K = g.K.Ring.kind in
    let s = c.args.self.now in
    let start = with_areas s c.clear.new.self in
    let u = c.add_term.new.self in
    let first = kept_fewer (but 8) (below 8) s start (λ o h e. omega arith) (kept-stored s start 8 [] c.clear.ensures.leaves refl) in
    let rows = c.table.ensures ∙ c.loop-i.invariant.kept.others c.args.left.area c.args.left.placed in
    let refused = summing_refused K c.args.variable (table start c.args.right.area) (table start c.args.left.area) start c.args.right.area c.args.right.placed refl c.loop-i.self u c.loop-i.i c.loop-i.invariant (omega (arith, ap length c.table-i-end.ensures)) c.index-table-i.result (c.index-table-i.is ∙ ap (λ l. get_or l c.loop-i.i c.index-table-i.result) rows) c.add_term.result c.add_term.ensures c.in_err-add_term.field-0.0 c.in_err-add_term.was in
    let p = err_from_is_err_and c.from_residual.result c.from_residual.ensures.1 in
    subst (Making 8 s u _) (sym (p.1 ∙ ap Err p.2)) (making_after 8 s start u _ _ _ first (λ i. substituted K (state s).vars (first.room i) c.args.variable (first.others c.args.right.area c.args.right.placed i) [] (first.others c.args.left.area c.args.left.placed i)) refused)

pub loop-i-preserved : goal.loop-i-preserved
loop-i-preserved g c =
    let K = g.K.Ring.kind in
    let start = with_areas c.args.self.now c.clear.new.self in
    let rows = c.table.ensures ∙ c.loop-i.invariant.kept.others c.args.left.area c.args.left.placed in
    summing_more K c.args.variable (table start c.args.right.area) (table start c.args.left.area) start c.args.right.area c.args.right.placed refl c.loop-i.self c.add_term.new.self c.loop-i.i c.loop-i.invariant (omega (arith, ap length c.table-i-end.ensures)) c.index-table-i.result (c.index-table-i.is ∙ ap (λ l. get_or l c.loop-i.i c.index-table-i.result) rows) c.add_term.result c.add_term.ensures c.in_ok-add_term.was

pub returns : goal.returns
returns g c =
    let K = g.K.Ring.kind in
    let s = c.args.self.now in
    let start = with_areas s c.clear.new.self in
    let first = kept_fewer (but 8) (below 8) s start (λ o h e. omega arith) (kept-stored s start 8 [] c.clear.ensures.leaves refl) in
    let all = summing_all K c.args.variable (table start c.args.right.area) (table start c.args.left.area) start c.loop-i.self c.loop-i.i c.loop-i.invariant (omega (arith, ap length c.table-i-end.ensures)) in
    making_after 8 s start c.loop-i.self _ _ _ first (λ i. substituted K (state s).vars (first.room i) c.args.variable (first.others c.args.right.area c.args.right.placed i) [] (first.others c.args.left.area c.args.left.placed i)) all
