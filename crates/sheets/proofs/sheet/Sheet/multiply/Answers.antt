use Rattle.std.proofs.Common.{◌≡◌, subst, arith}
use Rattle.arithmetic.specs.Multiplying.{product}
use Rattle.sheets.specs.Worktops.{state}
use Rattle.sheets.specs.Lent.{lent_on}
use Rattle.sheets.specs.Ends.{Making}
use Rattle.sheets.specs.Working.{table}
use Rattle.sheets.proofs.Outcomes.{three_placed, place-found, named, ends, tested, outcome, theory}
use Rattle.sheets.proofs.LentRows.{left_lent, misplaced_first, misplaced_second, misplaced_third}
use Rattle.sheets.proofs.sheet.Sheet.multiply.Goals as goal

pub returns : goal.returns
returns g c =
    let K = g.K.Ring.kind in
    let s = c.args.self.now.desk.top in
    let r = c.args.res in
    let p = c.args.left in
    let q = c.args.right in
    let er = c.in_ok-res.ensures in
    let ep = c.in_ok-left.ensures in
    let eq = c.in_ok-right.ensures in
    let t = c.product_in-made.new.self in
    let u = c.finish.new.self in
    let a = product K (state s).vars (state s).room ((state s).places p) ((state s).places q) in
    let same : product K (state s).vars (state s).room (table s c.in_ok-left.left.area) (table s c.in_ok-right.right.area) ≡ a =
    (λ i. product K (state s).vars (state s).room (place-found s c.in_ok-left.left.area p ep i) (place-found s c.in_ok-right.right.area q eq i)) in
    let e = named s u c.in_ok-res.res.area r a c.finish.result er (ends s 10 (omega arith) t u c.in_ok-res.res.area a c.product_in-made.result c.finish.result (subst (λ x. Making 10 s t x c.product_in-made.result) same c.product_in-made.ensures) c.finish.ensures.answer c.finish.ensures.leaves c.finish.ensures.blank c.finish.ensures.long) in
    let w = tested s u r a c.finish.result _ (three_placed r p q er.1 ep.1 eq.1) e in
    record {
      answer = w.answers;
      leaves = w.leaves;
      blank = w.blank;
      long = w.long;
      lent = λ b. left_lent s u r _ _ w b (λ _ _. er.1);
      algebra = λ f h _ hp hq. outcome K (state s) (state u) f r _ _ a c.finish.result e.answers e.leaves h ((theory K g.met.K.Ring.ring g.met.K.Ring.values s).products (f p) (f q) ((state s).places p) ((state s).places q) (h p hp) (h q hq));
    }

pub returns-in_err-res-clause-lent : goal.returns-in_err-res-clause-lent
returns-in_err-res-clause-lent g c = λ _. misplaced_first g.K.Ring.kind (lent_on c.args.self.now.desk.top) c.args.res c.args.left c.args.right _ c.in_err-res.ensures.0

pub returns-in_err-left-clause-lent : goal.returns-in_err-left-clause-lent
returns-in_err-left-clause-lent g c = λ _. misplaced_second g.K.Ring.kind (lent_on c.args.self.now.desk.top) c.args.res c.args.left c.args.right _ c.in_err-left.ensures.0

pub returns-in_err-right-clause-lent : goal.returns-in_err-right-clause-lent
returns-in_err-right-clause-lent g c = λ _. misplaced_third g.K.Ring.kind (lent_on c.args.self.now.desk.top) c.args.res c.args.left c.args.right _ c.in_err-right.ensures.0

pub invariant_of-desk : goal.invariant_of-desk
invariant_of-desk g c = record { free = c.finish.ensures.blank 8 (omega arith) (omega arith) }
