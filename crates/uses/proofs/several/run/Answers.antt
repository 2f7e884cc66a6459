use Rattle.std.proofs.Common.{◌≡◌, ◌<◌, map, length, take, drop, refl, ap, ◌∙◌, subst, arith, rules}
use Rattle.std.proofs.lemmas.List.{length-take, take_all}
use borrow.Author.Rules.{scaled_Fits}
use Rattle.arithmetic.specs.Dividing.{Over}
use Rattle.sheets.specs.Sheets.{state}
use Rattle.conduct.specs.Calls.{answer, after}
use Rattle.uses.specs.Answers.{answer_of}
use Rattle.uses.specs.Performing.{call_of, output_after}
use Rattle.uses.specs.Runs.{Ran}
use Rattle.uses.proofs.Lists.{turn_none, turn_more, goes_on, calls_allowed}
use Rattle.uses.proofs.several.run.Goals as goal

pub loop-i-init : goal.loop-i-init
loop-i-init g c = (turn_none g.K.Ring.kind (call_of (length c.args.output.now)) (state c.args.sheet.now) (take c.min-count.result c.args.calls.now) c.args.output.now g.D.Divides.divides_by c.args.answers.now, (λ b. b, refl))

pub offset_bounds-answers-i : goal.offset_bounds-answers-i
offset_bounds-answers-i g c =
    let long = length-take c.min-count.result c.args.calls.now in
    let lt : c.loop-i.i < length c.loop-i.answers = omega (arith, long) in
    scaled_Fits c.loop-i.i (length c.loop-i.answers) _ lt (search rules)

pub loop-i-preserved : goal.loop-i-preserved
loop-i-preserved g c =
    let K = g.K.Ring.kind in
    let D = g.D.Divides in
    let n = length c.args.output.now in
    let calls = take c.min-count.result c.args.calls.now in
    let t = state c.loop-i.sheet in
    let x = c.call-item.result in
    let P = c.perform.ensures in
    let same = c.loop-i.auto.output in
    let long = length-take c.min-count.result c.args.calls.now in
    let lt : c.loop-i.i < length c.loop-i.answers = omega (arith, long) in
    let lt' : c.loop-i.i < length c.args.answers.now = omega (arith, long) in
    (turn_more K (call_of n) (state c.args.sheet.now) calls c.args.output.now D.divides_by c.args.answers.now c.loop-i.i t (state c.perform.new.sheet) c.loop-i.answers c.perform.result c.loop-i.output c.perform.new.output x c.loop-i-test.true lt lt' c.call-item.is c.loop-i.invariant.0 (λ over by. P.leaves over by ∙ ap (λ m. after K over t (call_of m x)) same) (λ over by. P.answer over by ∙ ap (λ m. answer K over t (call_of m x)) same) (P.output ∙ ap (λ m. output_after K t (call_of m x) c.loop-i.output) same), (λ b. P.blank (c.loop-i.invariant.1.0 b), P.long ∙ c.loop-i.invariant.1.1))

pub returns : goal.returns
returns g c =
    let K = g.K.Ring.kind in
    let D = g.D.Divides in
    let n = length c.args.output.now in
    let s = state c.args.sheet.now in
    let t = state c.loop-i.sheet in
    let calls = take c.min-count.result c.args.calls.now in
    let long = length-take c.min-count.result c.args.calls.now in
    let end : c.loop-i.i ≡ c.min-count.result = omega (arith, long) in
    let all : take c.loop-i.i calls ≡ calls = take_all c.loop-i.i calls c.loop-i-test.false in
    let ran = λ (over : Over g.row.K.Denot) (by : D.divides_by over). subst (λ cs. Ran K over s (map (call_of n) cs) c.args.output.now t (map answer_of (take c.min-count.result c.loop-i.answers)) c.loop-i.output) all (subst (λ k. Ran K over s (map (call_of n) (take c.loop-i.i calls)) c.args.output.now t (map answer_of (take k c.loop-i.answers)) c.loop-i.output) end (c.loop-i.invariant.0.ran over by)) in
    record {
      count = c.min-count.ensures;
      ran = ran;
      others = subst (λ k. drop k c.loop-i.answers ≡ drop k c.args.answers.now) end c.loop-i.invariant.0.others;
      blank = c.loop-i.invariant.1.0;
      long = c.loop-i.invariant.1.1;
      promise = λ over vs by sound whole. goes_on K over vs D.may s t (map (call_of n) calls) (g.met.D.Divides.promised over vs by whole sound) (calls_allowed n D.may g.met.D.Divides.there calls) (ran over by).leaves;
    }
