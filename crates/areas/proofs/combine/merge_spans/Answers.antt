use Rattle.std.proofs.Common.{◌+◌, ◌-◌, ◌≤◌, ◌++◌, length, None, sym, refl, ap, ◌∙◌, subst, arith}
use Rattle.rows.specs.Tables.{limited}
use Rattle.rows.proofs.Sums.{limited-few}
use Rattle.areas.specs.Merging.{spanned, giving, Written}
use Rattle.areas.proofs.Merges.{placed}
use Rattle.areas.proofs.combine.merge_spans.Goals as goal

pub returns-clause-written : goal.returns-clause-written
returns-clause-written g c =
    let K = g.K.Ring.kind in
    let rows = c.args.rows.now in
    let before = c.split_at_mut-before.result.0.now in
    let out = c.split_at_mut-out.result.0.now in
    let after = c.split_at_mut-out.result.1.now in
    let new = c.merge_rows.new.out in
    let full = c.split_at_mut-out.ensures.front_len in
    let all = sym (c.split_at_mut-before.ensures.value ∙ ap (λ l. before ++ l) c.split_at_mut-out.ensures.value) in
    let m = c.args.area.end - c.args.area.start in
    let order = c.requires.order in
    let end = ap (λ n. n + length out) c.split_at_mut-before.ensures.front_len in
    let left = c.beside-left.ensures out (omega arith) ∙ ap (λ l. spanned l c.args.left) all in
    let right = c.beside-right.ensures out (omega arith) ∙ ap (λ l. spanned l c.args.right) all in
    let z = limited (length out) (giving K c.args.factor None c.beside-left.result.now c.beside-right.result.now) in
    let w = c.requires.within in
    let p = placed rows c.args.area.start m (omega arith) before c.split_at_mut-before.result.1.now out after new c.split_at_mut-before.ensures.front c.split_at_mut-before.ensures.back c.split_at_mut-out.ensures.front c.split_at_mut-out.ensures.back c.args.area.end refl z (λ xs e. subst (λ n. length xs ≤ n) full (limited-few (length out) _ xs e)) full c.merge_rows.ensures.filled in
    subst (λ y. Written y rows c.args.area (before ++ (new ++ after))) (λ i. limited (full i) (giving K c.args.factor None (left i) (right i))) p
