use Rattle.std.proofs.Common.{◌≡◌, [], length, get_or, replicate, Err, sym, refl, ap, ◌∙◌, subst, arith}
use Rattle.std.proofs.lemmas.Result.{err_from_is_err_and}
use Rattle.areas.specs.Areas.{contents}
use Rattle.sheets.specs.Worktops.{state}
use Rattle.sheets.specs.Ends.{Making}
use Rattle.sheets.specs.Working.{highest, table, below, but}
use Rattle.sheets.proofs.States.{with_areas, table-there}
use Rattle.sheets.proofs.Products.{always, kept_same, kept_fewer, kept-stored, making_after, product-kept, Turn, turn_taken, running_none, running_more, running-refused, running_all}
use Rattle.sheets.proofs.worktop.Worktop.product_in.Given as given
use Rattle.sheets.proofs.worktop.Worktop.product_in.Goals as goal
use Rattle.sheets.proofs.worktop.Worktop.product_in.Goals.{After-turn}

pub loop-i-init : goal.loop-i-init
loop-i-init g c =
    let s = c.args.self.now in
    let start = with_areas s c.clear.new.self in
    running_none g.K.Ring.kind 10 (always (table start c.args.left)) (table start c.args.right) start (ap (λ d. d.tables 10) c.clear.ensures.leaves ∙ table-there (contents s.areas) 10 [] (omega arith))

taken : (g : given.Over) (c : After-turn g) → Turn g.K.Ring.kind 10 (always (table (with_areas c.args.self.now c.clear.new.self) c.args.left)) (table (with_areas c.args.self.now c.clear.new.self) c.args.right) (with_areas c.args.self.now c.clear.new.self) c.loop-i.self c.turn.new.self c.loop-i.at c.index-table-i.result c.turn.result
taken g c =
    let K = g.K.Ring.kind in
    let s = c.args.self.now in
    let start = with_areas s c.clear.new.self in
    let t = c.loop-i.self in
    let xs = table start c.args.left in
    let first = kept-stored s start 10 [] c.clear.ensures.leaves refl in
    let most : c.greatest_of-greatest.result ≡ highest (state start).vars (replicate 8 0) xs = c.greatest_of-greatest.ensures ∙ ap (highest (state start).vars (replicate 8 0)) (c.table.ensures ∙ sym (first.others c.args.left (λ e. omega arith))) in
    turn_taken K 10 (always xs) (table start c.args.right) start (omega arith) t t c.turn.new.self c.loop-i.at c.loop-i.i c.args.left c.greatest_of-greatest.result c.index-table-i.result c.turn.result c.loop-i.invariant (kept_same (below 10) t) refl (c.loop-i.invariant.kept.others c.args.left c.requires.left) most c.turn.ensures.makes c.turn.ensures.area

pub returns-in_err-at : goal.returns-in_err-at
returns-in_err-at g c =
    let K = g.K.Ring.kind in
    let s = c.args.self.now in
    let start = with_areas s c.clear.new.self in
    let u = c.turn.new.self in
    let first = kept-stored s start 10 [] c.clear.ensures.leaves refl in
    let rows = c.table-in-loop-i.ensures ∙ c.loop-i.invariant.kept.others c.args.right c.requires.right in
    let refused = running-refused K 10 (always (table start c.args.left)) (table start c.args.right) start c.loop-i.self u c.loop-i.at c.loop-i.i c.loop-i.invariant (omega (arith, ap length c.table-i-end.ensures)) c.index-table-i.result (c.index-table-i.is ∙ ap (λ l. get_or l c.loop-i.i c.index-table-i.result) rows) c.turn.result (taken g (goal.at.returns-in_err-at g c).After-turn) c.in_err-at.field-0.0 c.in_err-at.was in
    let p = err_from_is_err_and c.from_residual.result c.from_residual.ensures.1 in
    subst (Making 10 s u _) (sym (p.1 ∙ ap Err p.2)) (making_after 10 s start u _ _ _ (kept_fewer (but 10) (below 10) s start (λ o h e. omega arith) first) (product-kept K s start first c.args.left c.args.right c.requires.left c.requires.right) refused)

pub loop-i-preserved : goal.loop-i-preserved
loop-i-preserved g c =
    let K = g.K.Ring.kind in
    let start = with_areas c.args.self.now c.clear.new.self in
    let rows = c.table-in-loop-i.ensures ∙ c.loop-i.invariant.kept.others c.args.right c.requires.right in
    running_more K 10 (always (table start c.args.left)) (table start c.args.right) start c.loop-i.self c.turn.new.self c.loop-i.at c.loop-i.i c.loop-i.invariant (omega (arith, ap length c.table-i-end.ensures)) c.index-table-i.result (c.index-table-i.is ∙ ap (λ l. get_or l c.loop-i.i c.index-table-i.result) rows) c.turn.result (taken g (goal.at.loop-i-preserved g c).After-turn) c.in_ok-at.at c.in_ok-at.was

pub returns : goal.returns
returns g c =
    let K = g.K.Ring.kind in
    let s = c.args.self.now in
    let start = with_areas s c.clear.new.self in
    let first = kept-stored s start 10 [] c.clear.ensures.leaves refl in
    let all = running_all K 10 (always (table start c.args.left)) (table start c.args.right) start c.loop-i.self c.loop-i.at c.loop-i.i c.loop-i.invariant (omega (arith, ap length c.table-i-end.ensures)) in
    making_after 10 s start c.loop-i.self _ _ _ (kept_fewer (but 10) (below 10) s start (λ o h e. omega arith) first) (product-kept K s start first c.args.left c.args.right c.requires.left c.requires.right) all
