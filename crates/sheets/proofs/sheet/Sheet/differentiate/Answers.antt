use Rattle.std.proofs.Common.{◌≡◌, ℕ, ◌<◌, length, sym, refl, ap, ◌∙◌, subst, arith, rules}
use Rattle.std.proofs.lemmas.Bool.{lt-ltb, cond-true}
use Rattle.formats.specs.Drafts.{variables}
use Rattle.arithmetic.specs.Deriving.{derived}
use Rattle.areas.specs.Areas.{contents}
use Rattle.sheets.specs.Worktops.{state}
use Rattle.sheets.specs.Calls.{differentiated}
use Rattle.sheets.specs.Changes.{row_derived, changed}
use Rattle.sheets.specs.Ends.{made_in, Making}
use Rattle.sheets.specs.Working.{table}
use Rattle.sheets.proofs.Outcomes.{two_placed, place-found, Ended, named, settled_free, settled_same, settled_ends, outcome, theory}
use Rattle.sheets.proofs.Changing.{derived-rows, changing_made}
use Rattle.sheets.proofs.LentRows.{left_same}
use Rattle.sheets.proofs.sheet.Sheet.differentiate.Goals as goal

pub returns : goal.returns
returns g c =
    let K = g.K.Ring.kind in
    let s = c.args.self.now.desk.top in
    let r = c.args.res in
    let p = c.args.place in
    let v = c.args.variable in
    let R = c.in_ok-res.res.area in
    let P = c.in_ok-place.place.area in
    let er = c.in_ok-res.ensures in
    let ep = c.in_ok-place.ensures in
    let answer = c.change_rows-answer.result in
    let t = c.change_rows-answer.new.self in
    let u = c.settle.new.self in
    let a = derived K (state s).vars v ((state s).places p) in
    let makes = row_derived K (variables s.format) v in
    let is : changed makes (table s P) ≡ a = derived-rows K (variables s.format) v (table s P) ∙ ap (derived K (state s).vars v) (place-found s P p ep) in
    let m = changing_made _ 8 (omega arith) (table s P) s t answer (made_in 8 answer) c.change_rows-answer.ensures.kept c.change_rows-answer.ensures.made refl makes (λ x r h. search rules) in
    let made = subst (λ x. Making 8 s t x (made_in 8 answer)) is m in
    let others = λ (o : ℕ) (low : 8 < o) (_ : o < 12). c.change_rows-answer.ensures.kept.others o (λ x. omega arith) in
    let free = c.args.self.now.desk.free in
    let spared = settled_same s t u R (omega arith) a answer made c.settle.ensures.areas c.settle.ensures.format free others in
    let e = named s u R r a c.settle.result er (settled_ends s t u R (omega arith) a answer made c.settle.ensures.areas c.settle.ensures.format c.settle.result c.settle.ensures.answer free others) in
    let here : v < length (state s).vars = subst (λ n. v < n) c.count.ensures c.if-variable-count.false in
    let told : differentiated K (state s) r p v ≡ a = cond-true _ _ _ (two_placed r p er.1 ep.1) ∙ cond-true _ _ _ (lt-ltb v (length (state s).vars) here) in
    let w = subst (λ x. Ended s u r x c.settle.result) (sym told) e in
    record {
      answer = w.answers;
      leaves = w.leaves;
      blank = w.blank;
      long = w.long;
      running = spared 9 (omega arith) (omega arith);
      lent = left_same s u r _ _ w spared (λ _ _. er.1);
      algebra = λ l f h _ hp. outcome K (state s) (state u) f r _ _ a c.settle.result e.answers e.leaves h ((theory K g.met.K.Ring.ring g.met.K.Ring.values s).derivatives v (f p) ((state s).places p) l (h p hp));
    }

pub invariant_of-desk : goal.invariant_of-desk
invariant_of-desk g c = record { free = ap (λ d. d.tables 8) c.settle.ensures.areas ∙ settled_free (contents c.change_rows-answer.new.self.areas) c.in_ok-res.res.area c.change_rows-answer.result }
