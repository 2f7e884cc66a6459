use Rattle.std.proofs.Common.{◌≡◌, [], refl, ap, ◌∙◌, subst, arith}
use Rattle.std.proofs.lemmas.Bool.{cond-true}
use Rattle.rows.specs.Products.{joined}
use Rattle.rows.specs.Tables.{limited}
use Rattle.arithmetic.specs.Negating.{minus_one, negated}
use Rattle.areas.specs.Areas.{contents, scaling}
use Rattle.sheets.specs.Worktops.{state}
use Rattle.sheets.specs.Ends.{Making}
use Rattle.sheets.proofs.States.{with_areas, table-there, table-other, few-rows, passed, before}
use Rattle.sheets.proofs.Outcomes.{two_placed, apart_areas, place-found, named, ends, tested, outcome, theory}
use Rattle.sheets.proofs.Scaled.{scaled-limited}
use Rattle.sheets.proofs.LentRows.{left_lent}
use Rattle.sheets.proofs.sheet.Sheet.negate.Goals as goal

pub returns : goal.returns
returns g c =
    let K = g.K.Ring.kind in
    let s = c.args.self.now.desk.top in
    let r = c.args.res in
    let p = c.args.place in
    let P = c.in_ok-place.place.area in
    let er = c.in_ok-res.ensures in
    let ep = c.in_ok-place.ensures in
    let mid = with_areas s c.clear.new.self in
    let t = with_areas s c.add_scaled-answer.new.self in
    let u = c.finish.new.self in
    let made = c.made_in.result in
    let is = c.clear.ensures.leaves in
    let a = negated K ((state s).places p) in
    let b = scaling K (contents mid.areas) 8 9 P c.minus_one.result in
    let empty = ap (λ d. d.tables 9) is ∙ table-there (contents s.areas) 9 [] (omega arith) in
    let there = ap (λ d. d.tables P) is ∙ table-other (contents s.areas) 9 [] P (λ x. omega arith) ∙ place-found s P p ep in
    let same : b ≡ a = cond-true _ _ _ (apart_areas 8 9 P (omega arith) (omega arith) (omega arith) (λ x. omega arith) (λ x. omega arith)) ∙ (λ i. limited (is i).room (joined K (empty i) (c.minus_one.ensures i) (there i))) ∙ scaled-limited K (state s).room (minus_one K) ((state s).places p) (few-rows s p) in
    let m = passed 8 8 mid t b c.add_scaled-answer.result made (omega arith) (omega arith) c.add_scaled-answer.ensures.leaves refl c.add_scaled-answer.ensures.answer c.made_in.ensures in
    let n = before 8 9 s mid t [] b made (omega arith) is refl m in
    let e = named s u c.in_ok-res.res.area r a c.finish.result er (ends s 8 (omega arith) t u c.in_ok-res.res.area a made c.finish.result (subst (λ x. Making 8 s t x made) same n) c.finish.ensures.answer c.finish.ensures.leaves c.finish.ensures.blank c.finish.ensures.long) in
    let w = tested s u r a c.finish.result _ (two_placed r p er.1 ep.1) e in
    record {
      answer = w.answers;
      leaves = w.leaves;
      blank = w.blank;
      long = w.long;
      lent = λ b. left_lent s u r _ _ w b (λ _ _. er.1);
      algebra = λ f h _ hp. outcome K (state s) (state u) f r _ _ a c.finish.result e.answers e.leaves h ((theory K g.met.K.Ring.ring g.met.K.Ring.values s).negatives (f p) ((state s).places p) (h p hp));
    }

pub invariant_of-desk : goal.invariant_of-desk
invariant_of-desk g c = record { free = c.finish.ensures.blank 8 (omega arith) (omega arith) }
