use Rattle.std.proofs.Common.{◌≡◌, [], length, ◌∙◌, subst, arith}
use Rattle.std.proofs.lemmas.Bool.{lt-ltb, le-ltb, cond-true, cond-false}
use Rattle.sheets.specs.Lent.{lent_on}
use Rattle.refusals.specs.declared.Refusal.TheVariants.{Variable as NotInFormat}
use Rattle.arithmetic.specs.Substituting.{substituted}
use Rattle.sheets.specs.Worktops.{state}
use Rattle.sheets.specs.Ends.{Making}
use Rattle.sheets.specs.Working.{table}
use Rattle.sheets.proofs.Outcomes.{three_placed, place-found, named, ends, tested, passing, outcome, theory}
use Rattle.sheets.proofs.LentRows.{left_lent, refused_lent, misplaced_first, misplaced_second, misplaced_third}
use Rattle.sheets.proofs.sheet.Sheet.substitute.Goals as goal

pub returns : goal.returns
returns g c =
    let K = g.K.Ring.kind in
    let s = c.args.self.now.desk.top in
    let r = c.args.res in
    let p = c.args.left in
    let q = c.args.right in
    let er = c.in_ok-res.ensures in
    let ep = c.in_ok-left.ensures in
    let eq = c.in_ok-right.ensures in
    let v = c.args.variable in
    let t = c.substitution_in-made.new.self in
    let u = c.finish.new.self in
    let a = substituted K (state s).vars (state s).room v ((state s).places q) [] ((state s).places p) in
    let same : substituted K (state s).vars (state s).room v (table s c.in_ok-right.right.area) [] (table s c.in_ok-left.left.area) ≡ a =
    (λ i. substituted K (state s).vars (state s).room v (place-found s c.in_ok-right.right.area q eq i) [] (place-found s c.in_ok-left.left.area p ep i)) in
    let e = named s u c.in_ok-res.res.area r a c.finish.result er (ends s 8 (omega arith) t u c.in_ok-res.res.area a c.substitution_in-made.result c.finish.result (subst (λ x. Making 8 s t x c.substitution_in-made.result) same c.substitution_in-made.ensures) c.finish.ensures.answer c.finish.ensures.leaves c.finish.ensures.blank c.finish.ensures.long) in
    let there = passing s u r a c.finish.result NotInFormat _ (lt-ltb v (length (state s).vars) (omega (arith, c.count.ensures))) e in
    let w = tested s u r _ c.finish.result _ (three_placed r p q er.1 ep.1 eq.1) there in
    record {
      answer = w.answers;
      leaves = w.leaves;
      blank = w.blank;
      long = w.long;
      lent = λ b. left_lent s u r _ _ w b (λ _ _. er.1);
      algebra = λ B hv f h bounded _ hp hq. outcome K (state s) (state u) f r _ _ a c.finish.result e.answers e.leaves h ((theory K g.met.K.Ring.ring g.met.K.Ring.values s).substitutions v B (f p) (f q) ((state s).places p) ((state s).places q) hv bounded (h p hp) (h q hq));
    }

pub returns-then-variable-count-clause-lent : goal.returns-then-variable-count-clause-lent
returns-then-variable-count-clause-lent g c =
    let s = c.args.self.now.desk.top in
    let er = c.in_ok-res.ensures in
    let ep = c.in_ok-left.ensures in
    let eq = c.in_ok-right.ensures in
    λ _. refused_lent g.K.Ring.kind (lent_on s) c.args.res _ NotInFormat (cond-true _ _ _ (three_placed c.args.res c.args.left c.args.right er.1 ep.1 eq.1) ∙ cond-false _ _ _ (le-ltb c.args.variable (length (state s).vars) (omega (arith, c.count.ensures, c.if-variable-count.true))))

pub returns-in_err-res-clause-lent : goal.returns-in_err-res-clause-lent
returns-in_err-res-clause-lent g c = λ _. misplaced_first g.K.Ring.kind (lent_on c.args.self.now.desk.top) c.args.res c.args.left c.args.right _ c.in_err-res.ensures.0

pub returns-in_err-left-clause-lent : goal.returns-in_err-left-clause-lent
returns-in_err-left-clause-lent g c = λ _. misplaced_second g.K.Ring.kind (lent_on c.args.self.now.desk.top) c.args.res c.args.left c.args.right _ c.in_err-left.ensures.0

pub returns-in_err-right-clause-lent : goal.returns-in_err-right-clause-lent
returns-in_err-right-clause-lent g c = λ _. misplaced_third g.K.Ring.kind (lent_on c.args.self.now.desk.top) c.args.res c.args.left c.args.right _ c.in_err-right.ensures.0

pub invariant_of-desk : goal.invariant_of-desk
invariant_of-desk g c = record { free = c.finish.ensures.blank 8 (omega arith) (omega arith) }
