use Rattle.std.proofs.Common.{◌≡◌, ◌+◌, ◌-◌, ◌*◌, cond, List, length, set, is_ok, None, Err, Result, sym, ap, ◌∙◌, arith, rules}
use Rattle.std.proofs.lemmas.Bool.{cond-true, cond-false}
use Rattle.refusals.specs.declared.Refusal.TheVariants.{Place}
use Rattle.refusals.specs.declared.Refusal.{Refusal}
use Rattle.rows.specs.declared.Row.{Row}
use Rattle.rows.specs.Tables.{limited}
use Rattle.rows.proofs.Sums.{limited-few}
use Rattle.areas.specs.Areas.{contents, lent_room, storing, answered, rows_of, apart}
use Rattle.areas.specs.Merging.{spanned, giving, combined}
use Rattle.areas.proofs.Ends.{Merged, apart_parts, span_beside, spanned-table, merged, settled, few-counted, answer-of}
use Rattle.areas.proofs.twelve.Areas.combine.Goals as goal
use Rattle.areas.proofs.twelve.Areas.combine.Goals.{After-max, then-is_ok, else-is_ok}
use Rattle.areas.proofs.twelve.Areas.combine.Given as given

pub merge_spans-merged-requires-clause-left : goal.merge_spans-merged-requires-clause-left
merge_spans-merged-requires-clause-left g c =
    let s = c.args.self.now in
    let twelve : length s.counts ≡ 12 = search rules in
    let p = apart_parts c.args.to c.args.left c.args.right (sym c.apart.ensures ∙ c.if-not-apart.false) in
    span_beside g.K.Ring.kind s.rows.now s.counts twelve s.tidy c.args.left c.span-first.result c.span-first.ensures p.1 c.args.to p.3 _ (ap (λ n. c.args.to * n) c.room-room.ensures) (omega arith)

pub merge_spans-merged-requires-clause-right : goal.merge_spans-merged-requires-clause-right
merge_spans-merged-requires-clause-right g c =
    let s = c.args.self.now in
    let twelve : length s.counts ≡ 12 = search rules in
    let p = apart_parts c.args.to c.args.left c.args.right (sym c.apart.ensures ∙ c.if-not-apart.false) in
    span_beside g.K.Ring.kind s.rows.now s.counts twelve s.tidy c.args.right c.span-second.result c.span-second.ensures p.2 c.args.to p.4 _ (ap (λ n. c.args.to * n) c.room-room.ensures) (omega arith)

-- the sum that is to be left
abbrev sum_of : (g : given.Over) (c : After-max g) → Result (List (Row g.row.K.Denot)) Refusal
sum_of g c = limited (c.args.to * c.room-room.result + c.room-room.result - c.args.to * c.room-room.result) (giving g.K.Ring.kind c.args.factor None (spanned c.args.self.now.rows.now c.span-first.result) (spanned c.args.self.now.rows.now c.span-second.result))

written_over : (g : given.Over) (c : After-max g) → Merged g.K.Ring.kind c.args.self.now.rows.now c.args.self.now.counts c.args.to (sum_of g c) c.unwrap_or-count.result c.merge_spans-merged.new.rows (set c.args.self.now.counts c.args.to c.max.result)
written_over g c =
    let s = c.args.self.now in
    let K = g.K.Ring.kind in
    let rows = s.rows.now in
    let p = apart_parts c.args.to c.args.left c.args.right (sym c.apart.ensures ∙ c.if-not-apart.false) in
    let m = c.room-room.result in
    let at = c.args.to * m in
    let wide : at + m - at ≡ lent_room s = omega arith in
    let used : c.if-is_ok.used ≡ cond (is_ok c.merge_spans-merged.result) c.count-old.result m = elim c.if-is_ok.branch [ then-is_ok w ↦ w.used-is ∙ sym (cond-true _ _ _ (sym c.is_ok.ensures.value ∙ w.if-is_ok.true)) | else-is_ok w ↦ w.used-is ∙ sym (cond-false _ _ _ (sym c.is_ok.ensures.value ∙ w.if-is_ok.false)) ] in
    merged K rows s.counts (search rules) s.tidy c.args.to p.0 (record { start = at; end = at + m }) (ap (λ n. c.args.to * n) c.room-room.ensures) wide c.merge_spans-merged.new.rows (sum_of g c) c.merge_spans-merged.result c.unwrap_or-count.result c.if-is_ok.used _ (λ xs e. limited-few (at + m - at) _ xs e) c.merge_spans-merged.ensures.answer c.merge_spans-merged.ensures.written c.unwrap_or-count.ensures (used ∙ (λ i. cond (is_ok c.merge_spans-merged.result) (c.count-old.ensures i) (c.room-room.ensures i))) (ap (set s.counts c.args.to) c.max.ensures)

pub settle-requires-clause-count : goal.settle-requires-clause-count
settle-requires-clause-count g c =
    let s = c.args.self.now in
    let twelve : length s.counts ≡ 12 = search rules in
    let p = apart_parts c.args.to c.args.left c.args.right (sym c.apart.ensures ∙ c.if-not-apart.false) in
    let q = written_over g (goal.at.settle-requires-clause-count g c).After-max in
    let f = few-counted g.K.Ring.kind s.rows.now s.counts twelve s.tidy c.args.to p.0 q.written _ _ q.leaves in
    let l = q.long in
    omega arith

pub invariant_of-self : goal.invariant_of-self
invariant_of-self g c = record { tidy = (written_over g (goal.at.invariant_of-self g c).After-max).leaves.tidy }

pub returns : goal.returns
returns g c =
    let s = c.args.self.now in
    let K = g.K.Ring.kind in
    let rows = s.rows.now in
    let twelve : length s.counts ≡ 12 = search rules in
    let t = sym c.apart.ensures ∙ c.if-not-apart.false in
    let p = apart_parts c.args.to c.args.left c.args.right t in
    let m = c.room-room.result in
    let wide : c.args.to * m + m - c.args.to * m ≡ lent_room s = omega arith in
    let left = spanned-table K rows s.counts twelve s.tidy c.args.left c.span-first.result c.span-first.ensures in
    let right = spanned-table K rows s.counts twelve s.tidy c.args.right c.span-second.result c.span-second.ensures in
    let after = (goal.at.returns g c).After-max in
    let r = sum_of g after in
    let is : r ≡ combined K (contents s) c.args.to c.args.left c.args.right c.args.factor = (λ i. limited (wide i) (giving K c.args.factor None (left i) (right i))) ∙ sym (cond-true (apart c.args.to c.args.left c.args.right) _ (Err Place) t) in
    let q = written_over g after in
    record {
      answer = answer-of _ r c.merge_spans-merged.result c.map.result c.merge_spans-merged.ensures.answer c.map.ensures.variant c.map.ensures.cases ∙ ap answered is;
      leaves = settled K rows s.counts twelve s.tidy c.args.to p.0 q.written (rows_of r) _ _ _ q.leaves.holds q.first c.settle.ensures ∙ ap (λ x. storing (contents s) c.args.to (rows_of x)) is;
    }

pub returns-then-not-apart : goal.returns-then-not-apart
returns-then-not-apart g c =
    let s = contents c.args.self.now in
    let none : Err Place ≡ combined g.K.Ring.kind s c.args.to c.args.left c.args.right c.args.factor = sym (cond-false (apart c.args.to c.args.left c.args.right) _ _ (sym c.apart.ensures ∙ c.if-not-apart.true)) in
    record { answer = ap answered none; leaves = c.clear.ensures.leaves ∙ ap (λ r. storing s c.args.to (rows_of r)) none }
