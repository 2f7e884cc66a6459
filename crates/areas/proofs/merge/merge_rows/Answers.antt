use Rattle.std.proofs.Common.{◌+◌, length, None, Err, sym, ap, ◌∙◌, refl, arith}
use Rattle.std.proofs.lemmas.Result.{err_from_is_err_and}
use Rattle.std.proofs.lemmas.Bool.{ltb-false}
use Rattle.areas.specs.Merging.{giving, unread}
use Rattle.areas.proofs.Merges.{merging_none, merging_refused, merging_some, merging_skip, merging_count, merging_over, merging_all}
use Rattle.areas.proofs.merge.merge_rows.Goals as goal

pub loop-merge-init : goal.loop-merge-init
loop-merge-init g c = merging_none g.K.Ring.kind (giving g.K.Ring.kind c.args.factor None c.args.left.now c.args.right.now) (length c.args.left.now + length c.args.right.now) c.args.out.now _ refl (omega arith)

pub returns-in_err-row-clause-answer : goal.returns-in_err-row-clause-answer
returns-in_err-row-clause-answer g c =
    let p = err_from_is_err_and c.from_residual.result c.from_residual.ensures.1 in
    let q = merging_refused g.K.Ring.kind (giving g.K.Ring.kind c.args.factor None c.args.left.now c.args.right.now) (length c.args.left.now + length c.args.right.now) c.args.out.now c.loop-merge.out c.loop-merge.merge c.loop-merge.count c.loop-merge.invariant c.in_err-row.field-0.0 c.in_err-row.ensures.next in
    p.1 ∙ ap Err p.2 ∙ q.0

pub returns-in_err-row-clause-filled : goal.returns-in_err-row-clause-filled
returns-in_err-row-clause-filled g c = (merging_refused g.K.Ring.kind (giving g.K.Ring.kind c.args.factor None c.args.left.now c.args.right.now) (length c.args.left.now + length c.args.right.now) c.args.out.now c.loop-merge.out c.loop-merge.merge c.loop-merge.count c.loop-merge.invariant c.in_err-row.field-0.0 c.in_err-row.ensures.next).1

pub overflow_add-count : goal.overflow_add-count
overflow_add-count g c = record { fits = merging_count g.K.Ring.kind (giving g.K.Ring.kind c.args.factor None c.args.left.now c.args.right.now) (length c.args.left.now + length c.args.right.now) c.args.out.now c.loop-merge.out c.loop-merge.merge c.loop-merge.count c.loop-merge.invariant c.in_ok-row.field-0 c.step.new.self c.in_ok-row.ensures.goes c.in_ok-row.ensures.next c.in-Some.row c.in-Some.is c.requires.small }

pub loop-merge-preserved-in-Some : goal.loop-merge-preserved-in-Some
loop-merge-preserved-in-Some g c = merging_some g.K.Ring.kind (giving g.K.Ring.kind c.args.factor None c.args.left.now c.args.right.now) (length c.args.left.now + length c.args.right.now) c.args.out.now c.loop-merge.out c.loop-merge.merge c.loop-merge.count c.loop-merge.invariant c.in_ok-row.field-0 c.step.new.self c.in_ok-row.ensures.goes c.in_ok-row.ensures.next c.in-Some.row c.in-Some.is c.put_row.new.out c.put_row.ensures

pub loop-merge-preserved : goal.loop-merge-preserved
loop-merge-preserved g c = merging_skip g.K.Ring.kind (giving g.K.Ring.kind c.args.factor None c.args.left.now c.args.right.now) (length c.args.left.now + length c.args.right.now) c.args.out.now c.loop-merge.out c.loop-merge.merge c.loop-merge.count c.loop-merge.invariant c.in_ok-row.field-0 c.step.new.self c.in_ok-row.ensures.goes c.in_ok-row.ensures.next c.in_default.is

pub returns-then-count-out-clause-answer : goal.returns-then-count-out-clause-answer
returns-then-count-out-clause-answer g c = (merging_over g.K.Ring.kind (giving g.K.Ring.kind c.args.factor None c.args.left.now c.args.right.now) (length c.args.left.now + length c.args.right.now) c.args.out.now c.loop-merge.out c.loop-merge.merge c.loop-merge.count c.loop-merge.invariant (ltb-false 0 (unread c.loop-merge.merge) (sym c.is_unfinished.ensures ∙ c.loop-merge-test.false)) c.if-count-out.true).0

pub returns-then-count-out-clause-filled : goal.returns-then-count-out-clause-filled
returns-then-count-out-clause-filled g c = (merging_over g.K.Ring.kind (giving g.K.Ring.kind c.args.factor None c.args.left.now c.args.right.now) (length c.args.left.now + length c.args.right.now) c.args.out.now c.loop-merge.out c.loop-merge.merge c.loop-merge.count c.loop-merge.invariant (ltb-false 0 (unread c.loop-merge.merge) (sym c.is_unfinished.ensures ∙ c.loop-merge-test.false)) c.if-count-out.true).1

pub returns-clause-answer : goal.returns-clause-answer
returns-clause-answer g c = (merging_all g.K.Ring.kind (giving g.K.Ring.kind c.args.factor None c.args.left.now c.args.right.now) (length c.args.left.now + length c.args.right.now) c.args.out.now c.loop-merge.out c.loop-merge.merge c.loop-merge.count c.loop-merge.invariant (ltb-false 0 (unread c.loop-merge.merge) (sym c.is_unfinished.ensures ∙ c.loop-merge-test.false)) c.if-count-out.false).0

pub returns-clause-filled : goal.returns-clause-filled
returns-clause-filled g c = (merging_all g.K.Ring.kind (giving g.K.Ring.kind c.args.factor None c.args.left.now c.args.right.now) (length c.args.left.now + length c.args.right.now) c.args.out.now c.loop-merge.out c.loop-merge.merge c.loop-merge.count c.loop-merge.invariant (ltb-false 0 (unread c.loop-merge.merge) (sym c.is_unfinished.ensures ∙ c.loop-merge-test.false)) c.if-count-out.false).1
