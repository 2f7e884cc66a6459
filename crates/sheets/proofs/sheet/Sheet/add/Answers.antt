use Rattle.std.proofs.Common.{ap, ◌≡◌, sym, refl, ◌∙◌, subst, arith}
use Rattle.rows.specs.Tables.{sum, limited}
use Rattle.areas.specs.Areas.{contents, added as added_areas}
use Rattle.std.proofs.lemmas.Bool.{cond-true}
use Rattle.sheets.specs.Worktops.{state}
use Rattle.sheets.specs.Calls.{limit}
use Rattle.sheets.specs.Ends.{made_in, Making}
use Rattle.sheets.proofs.States.{with_areas, passed}
use Rattle.sheets.proofs.Outcomes.{three_placed, apart_areas, place-found, named, only-first, settled_free, settled_same, settled_ends, tested, outcome, theory}
use Rattle.sheets.proofs.LentRows.{ended_lent, added-is, lent_added}
use Rattle.sheets.proofs.LentSums.{adding}
use Rattle.areas.specs.Areas.{answered}
use Rattle.sheets.proofs.sheet.Sheet.add.Goals as goal

pub returns : goal.returns
returns g c =
    let K = g.K.Ring.kind in
    let s = c.args.self.now.desk.top in
    let r = c.args.res in
    let p = c.args.left in
    let q = c.args.right in
    let er = c.in_ok-res.ensures in
    let ep = c.in_ok-left.ensures in
    let eq = c.in_ok-right.ensures in
    let t = with_areas s c.add-answer.new.self in
    let u = c.settle.new.self in
    let a = limit (state s) (sum K ((state s).places p) ((state s).places q)) in
    let same : added_areas K (contents s.areas) 8 c.in_ok-left.left.area c.in_ok-right.right.area ≡ a = cond-true _ _ _ (apart_areas 8 c.in_ok-left.left.area c.in_ok-right.right.area (omega arith) (omega arith) (omega arith) (λ x. omega arith) (λ x. omega arith)) ∙ (λ i. limited (state s).room (sum K (place-found s c.in_ok-left.left.area p ep i) (place-found s c.in_ok-right.right.area q eq i))) in
    let m = passed 8 8 s t (added_areas K (contents s.areas) 8 c.in_ok-left.left.area c.in_ok-right.right.area) c.add-answer.result (made_in 8 c.add-answer.result) (omega arith) (omega arith) c.add-answer.ensures.leaves refl c.add-answer.ensures.answer refl in
    let makes = subst (λ x. Making 8 s t x (made_in 8 c.add-answer.result)) same m in
    let others = only-first s t (added_areas K (contents s.areas) 8 c.in_ok-left.left.area c.in_ok-right.right.area) c.add-answer.ensures.leaves in
    let R = c.in_ok-res.res.area in
    let free = c.args.self.now.desk.free in
    let spared = settled_same s t u R (omega arith) a c.add-answer.result makes c.settle.ensures.areas c.settle.ensures.format free others in
    let e = named s u R r a c.settle.result er (settled_ends s t u R (omega arith) a c.add-answer.result makes c.settle.ensures.areas c.settle.ensures.format c.settle.result c.settle.ensures.answer free others) in
    let w = tested s u r a c.settle.result _ (three_placed r p q er.1 ep.1 eq.1) e in
    record {
      answer = w.answers;
      leaves = w.leaves;
      told = w.answers ∙ ap answered (sym (added-is K s r p q));
      blank = w.blank;
      long = w.long;
      running = spared 9 (omega arith) (omega arith);
      lent = lent_added s u free spared (ended_lent s u r _ _ w) r p q w.leaves;
      sums = adding K s u g.met.K.Ring.ring g.met.K.Ring.values r p q c.settle.result w.answers w.leaves;
      algebra = λ f h _ hp hq. outcome K (state s) (state u) f r _ _ a c.settle.result e.answers e.leaves h ((theory K g.met.K.Ring.ring g.met.K.Ring.values s).sums (f p) (f q) ((state s).places p) ((state s).places q) (h p hp) (h q hq));
    }

pub invariant_of-desk : goal.invariant_of-desk
invariant_of-desk g c = record { free = ap (λ d. d.tables 8) c.settle.ensures.areas ∙ settled_free (contents c.add-answer.new.self) c.in_ok-res.res.area c.add-answer.result }
