use Rattle.std.proofs.Common.{◌≡◌, [], length, get_or, replicate, Err, sym, refl, ap, ◌∙◌, subst, arith}
use Rattle.std.proofs.lemmas.Result.{err_from_is_err_and}
use Rattle.areas.specs.Areas.{contents}
use Rattle.formats.specs.Drafts.{variables}
use Rattle.sheets.specs.Worktops.{state}
use Rattle.sheets.specs.Ends.{Making}
use Rattle.sheets.specs.Working.{highest, table, below, but}
use Rattle.sheets.proofs.States.{with_areas, table-there}
use Rattle.arithmetic.specs.Truncating.{near, product_truncated}
use Rattle.sheets.proofs.Products.{kept_fewer, kept-stored, making_after, Turn, turn_taken, running_none, running_more, running-refused, running_all}
use Rattle.sheets.proofs.worktop.Worktop.low_product_in.Given as given
use Rattle.sheets.proofs.worktop.Worktop.low_product_in.Goals as goal
use Rattle.sheets.proofs.worktop.Worktop.low_product_in.Goals.{After-turn}

pub loop-i-init : goal.loop-i-init
loop-i-init g c =
    let s = c.args.self.now in
    let start = with_areas s c.clear.new.self in
    running_none g.K.Ring.kind 9 (near (state start).vars c.args.truncation.count c.args.truncation.most (table start c.args.left.area)) (table start c.args.right.area) start (ap (λ d. d.tables 10) c.clear.ensures.leaves ∙ table-there (contents s.areas) 10 [] (omega arith))

taken : (g : given.Over) (c : After-turn g) → Turn g.K.Ring.kind 9 (near (variables c.args.self.now.format) c.args.truncation.count c.args.truncation.most (table (with_areas c.args.self.now c.clear.new.self) c.args.left.area)) (table (with_areas c.args.self.now c.clear.new.self) c.args.right.area) (with_areas c.args.self.now c.clear.new.self) c.loop-i.self c.turn.new.self c.loop-i.at c.index-table-i.result c.turn.result
taken g c =
    let K = g.K.Ring.kind in
    let start = with_areas c.args.self.now c.clear.new.self in
    let vs = (state start).vars in
    let n = c.args.truncation.most in
    let t = c.loop-i.self in
    let mid = c.gather.new.self in
    let pick = near vs c.args.truncation.count n (table start c.args.left.area) in
    let y = c.index-table-i.result in
    let k = c.loop-i.invariant.kept in
    let l = c.gather.ensures.kept in
    let rows : table mid 9 ≡ pick y = c.gather.ensures.rows ∙ (λ i. near (variables (k.format i)) c.args.truncation.count n (k.others c.args.left.area (omega arith) i) y) in
    let most : c.greatest_of-greatest.result ≡ highest vs (replicate 8 0) (pick y) = c.greatest_of-greatest.ensures ∙ (λ i. highest (variables ((l.format ∙ k.format) i)) (replicate 8 0) ((c.table-in-loop-i.ensures ∙ rows) i)) in
    turn_taken K 9 pick (table start c.args.right.area) start (omega arith) t mid c.turn.new.self c.loop-i.at c.loop-i.i 9 c.greatest_of-greatest.result y c.turn.result c.loop-i.invariant (kept_fewer (but 9) (below 9) t mid (λ o h e. omega arith) l) (l.others c.loop-i.at (λ e. omega (arith, c.loop-i.invariant.low))) rows most c.turn.ensures.makes c.turn.ensures.area

pub returns-in_err-at : goal.returns-in_err-at
returns-in_err-at g c =
    let K = g.K.Ring.kind in
    let s = c.args.self.now in
    let start = with_areas s c.clear.new.self in
    let u = c.turn.new.self in
    let first = kept_fewer (but 10) (below 9) s start (λ o h e. omega arith) (kept-stored s start 10 [] c.clear.ensures.leaves refl) in
    let rows = c.table.ensures ∙ c.loop-i.invariant.kept.others c.args.right.area (omega arith) in
    let refused = running-refused K 9 (near (state start).vars c.args.truncation.count c.args.truncation.most (table start c.args.left.area)) (table start c.args.right.area) start c.loop-i.self u c.loop-i.at c.loop-i.i c.loop-i.invariant (omega (arith, ap length c.table-i-end.ensures)) c.index-table-i.result (c.index-table-i.is ∙ ap (λ l. get_or l c.loop-i.i c.index-table-i.result) rows) c.turn.result (taken g (goal.at.returns-in_err-at g c).After-turn) c.in_err-at.field-0.0 c.in_err-at.was in
    let p = err_from_is_err_and c.from_residual.result c.from_residual.ensures.1 in
    subst (Making 9 s u _) (sym (p.1 ∙ ap Err p.2)) (making_after 9 s start u _ _ _ first (λ i. product_truncated K (state s).vars (first.room i) c.args.truncation.count c.args.truncation.most (first.others c.args.left.area (omega arith) i) (first.others c.args.right.area (omega arith) i)) refused)

pub loop-i-preserved : goal.loop-i-preserved
loop-i-preserved g c =
    let K = g.K.Ring.kind in
    let start = with_areas c.args.self.now c.clear.new.self in
    let rows = c.table.ensures ∙ c.loop-i.invariant.kept.others c.args.right.area (omega arith) in
    running_more K 9 (near (state start).vars c.args.truncation.count c.args.truncation.most (table start c.args.left.area)) (table start c.args.right.area) start c.loop-i.self c.turn.new.self c.loop-i.at c.loop-i.i c.loop-i.invariant (omega (arith, ap length c.table-i-end.ensures)) c.index-table-i.result (c.index-table-i.is ∙ ap (λ l. get_or l c.loop-i.i c.index-table-i.result) rows) c.turn.result (taken g (goal.at.loop-i-preserved g c).After-turn) c.in_ok-at.at c.in_ok-at.was

pub returns : goal.returns
returns g c =
    let K = g.K.Ring.kind in
    let s = c.args.self.now in
    let start = with_areas s c.clear.new.self in
    let first = kept_fewer (but 10) (below 9) s start (λ o h e. omega arith) (kept-stored s start 10 [] c.clear.ensures.leaves refl) in
    let all = running_all K 9 (near (state start).vars c.args.truncation.count c.args.truncation.most (table start c.args.left.area)) (table start c.args.right.area) start c.loop-i.self c.loop-i.at c.loop-i.i c.loop-i.invariant (omega (arith, ap length c.table-i-end.ensures)) in
    making_after 9 s start c.loop-i.self _ _ _ first (λ i. product_truncated K (state s).vars (first.room i) c.args.truncation.count c.args.truncation.most (first.others c.args.left.area (omega arith) i) (first.others c.args.right.area (omega arith) i)) all
