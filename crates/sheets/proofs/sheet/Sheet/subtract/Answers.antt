use Rattle.std.proofs.Common.{◌≡◌, refl, ap, ◌∙◌, subst, arith}
use Rattle.std.proofs.lemmas.Bool.{cond-true}
use Rattle.rows.specs.Products.{joined}
use Rattle.rows.specs.Tables.{limited}
use Rattle.arithmetic.specs.Negating.{subtracted}
use Rattle.areas.specs.Areas.{contents, scaling}
use Rattle.sheets.specs.Worktops.{state}
use Rattle.sheets.specs.Lent.{lent_on}
use Rattle.sheets.specs.Calls.{limit}
use Rattle.sheets.specs.Ends.{made_in, Making}
use Rattle.sheets.proofs.States.{with_areas, passed}
use Rattle.sheets.proofs.Outcomes.{three_placed, apart_areas, place-found, named, only-first, settled_free, settled_same, settled_ends, tested, outcome, theory}
use Rattle.sheets.proofs.LentRows.{left_same, misplaced_first, misplaced_second, misplaced_third}
use Rattle.sheets.proofs.sheet.Sheet.subtract.Goals as goal

pub returns : goal.returns
returns g c =
    let K = g.K.Ring.kind in
    let s = c.args.self.now.desk.top in
    let r = c.args.res in
    let p = c.args.left in
    let q = c.args.right in
    let er = c.in_ok-res.ensures in
    let ep = c.in_ok-left.ensures in
    let eq = c.in_ok-right.ensures in
    let t = with_areas s c.add_scaled-answer.new.self in
    let u = c.settle.new.self in
    let answer = c.add_scaled-answer.result in
    let made = made_in 8 answer in
    let R = c.in_ok-res.res.area in
    let free = c.args.self.now.desk.free in
    let a = limit (state s) (subtracted K ((state s).places p) ((state s).places q)) in
    let b = scaling K (contents s.areas) 8 c.in_ok-left.left.area c.in_ok-right.right.area c.minus_one-row.result in
    let same : b ≡ a = cond-true _ _ _ (apart_areas 8 c.in_ok-left.left.area c.in_ok-right.right.area (omega arith) (omega arith) (omega arith) (λ x. omega arith) (λ x. omega arith)) ∙ (λ i. limited (state s).room (joined K (place-found s c.in_ok-left.left.area p ep i) (c.minus_one-row.ensures i) (place-found s c.in_ok-right.right.area q eq i))) in
    let m = passed 8 8 s t b c.add_scaled-answer.result made (omega arith) (omega arith) c.add_scaled-answer.ensures.leaves refl c.add_scaled-answer.ensures.answer refl in
    let makes = subst (λ x. Making 8 s t x made) same m in
    let others = only-first s t b c.add_scaled-answer.ensures.leaves in
    let spared = settled_same s t u R (omega arith) a answer makes c.settle.ensures.areas c.settle.ensures.format free others in
    let e = named s u R r a c.settle.result er (settled_ends s t u R (omega arith) a answer makes c.settle.ensures.areas c.settle.ensures.format c.settle.result c.settle.ensures.answer free others) in
    let w = tested s u r a c.settle.result _ (three_placed r p q er.1 ep.1 eq.1) e in
    record {
      answer = w.answers;
      leaves = w.leaves;
      blank = w.blank;
      long = w.long;
      running = spared 9 (omega arith) (omega arith);
      lent = left_same s u r _ _ w spared (λ _ _. er.1);
      algebra = λ f h _ hp hq. outcome K (state s) (state u) f r _ _ a c.settle.result e.answers e.leaves h ((theory K g.met.K.Ring.ring g.met.K.Ring.values s).differences (f p) (f q) ((state s).places p) ((state s).places q) (h p hp) (h q hq));
    }

pub returns-in_err-res-clause-lent : goal.returns-in_err-res-clause-lent
returns-in_err-res-clause-lent g c = misplaced_first g.K.Ring.kind (lent_on c.args.self.now.desk.top) c.args.res c.args.left c.args.right _ c.in_err-res.ensures.0

pub returns-in_err-left-clause-lent : goal.returns-in_err-left-clause-lent
returns-in_err-left-clause-lent g c = misplaced_second g.K.Ring.kind (lent_on c.args.self.now.desk.top) c.args.res c.args.left c.args.right _ c.in_err-left.ensures.0

pub returns-in_err-right-clause-lent : goal.returns-in_err-right-clause-lent
returns-in_err-right-clause-lent g c = misplaced_third g.K.Ring.kind (lent_on c.args.self.now.desk.top) c.args.res c.args.left c.args.right _ c.in_err-right.ensures.0

pub invariant_of-desk : goal.invariant_of-desk
invariant_of-desk g c = record { free = ap (λ d. d.tables 8) c.settle.ensures.areas ∙ settled_free (contents c.add_scaled-answer.new.self) c.in_ok-res.res.area c.add_scaled-answer.result }
