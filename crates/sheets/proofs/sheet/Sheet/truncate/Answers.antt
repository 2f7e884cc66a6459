use Rattle.std.proofs.Common.{◌≡◌, ℕ, ◌<◌, ◌≤◌, length, Ok, sym, refl, ap, ◌∙◌, subst, arith, rules}
use Rattle.std.proofs.lemmas.Bool.{le-leb, cond-true}
use Rattle.formats.specs.Drafts.{variables}
use Rattle.formats.specs.Keys.{unpack}
use Rattle.rows.specs.declared.Row.{Row}
use Rattle.arithmetic.specs.Truncating as truncating
use Rattle.arithmetic.specs.Truncating.{low}
use Rattle.areas.specs.Areas.{contents}
use Rattle.sheets.specs.Worktops.{state}
use Rattle.sheets.specs.Calls.{truncated}
use Rattle.sheets.specs.Changes.{row_low, changed}
use Rattle.sheets.specs.Ends.{made_in, Making}
use Rattle.sheets.specs.Working.{table}
use Rattle.sheets.proofs.Outcomes.{two_placed, place-found, Ended, named, settled_free, settled_same, settled_ends, outcome, theory}
use Rattle.sheets.proofs.Changing.{chosen-rows, changing_made}
use Rattle.sheets.proofs.LentRows.{left_same}
use Rattle.sheets.proofs.sheet.Sheet.truncate.Goals as goal

pub returns : goal.returns
returns g c =
    let K = g.K.Ring.kind in
    let s = c.args.self.now.desk.top in
    let r = c.args.res in
    let p = c.args.place in
    let k = c.args.count in
    let n = c.args.most in
    let R = c.in_ok-res.res.area in
    let P = c.in_ok-place.place.area in
    let er = c.in_ok-res.ensures in
    let ep = c.in_ok-place.ensures in
    let answer = c.change_rows-answer.result in
    let t = c.change_rows-answer.new.self in
    let u = c.settle.new.self in
    let xs = truncating.truncated (state s).vars k n ((state s).places p) in
    let keeps = λ (x : Row g.row.K.Denot). Ok (row_low (variables s.format) k n x) in
    let is : changed keeps (table s P) ≡ Ok xs = chosen-rows (λ x. low k n (unpack (variables s.format) x.key)) (table s P) ∙ ap (λ ys. Ok (truncating.truncated (state s).vars k n ys)) (place-found s P p ep) in
    let m = changing_made _ 8 (omega arith) (table s P) s t answer (made_in 8 answer) c.change_rows-answer.ensures.kept c.change_rows-answer.ensures.made refl keeps (λ x r h. search rules) in
    let made = subst (λ x. Making 8 s t x (made_in 8 answer)) is m in
    let others = λ (o : ℕ) (low : 8 < o) (_ : o < 12). c.change_rows-answer.ensures.kept.others o (λ x. omega arith) in
    let free = c.args.self.now.desk.free in
    let spared = settled_same s t u R (omega arith) (Ok xs) answer made c.settle.ensures.areas c.settle.ensures.format free others in
    let e = named s u R r (Ok xs) c.settle.result er (settled_ends s t u R (omega arith) (Ok xs) answer made c.settle.ensures.areas c.settle.ensures.format c.settle.result c.settle.ensures.answer free others) in
    let here : k ≤ length (variables s.format) = omega (arith, c.count.ensures, c.if-count.false) in
    let told : truncated (state s) r p k n ≡ Ok xs = cond-true _ _ _ (two_placed r p er.1 ep.1) ∙ cond-true _ _ _ (le-leb k (length (variables s.format)) here) in
    let w = subst (λ x. Ended s u r x c.settle.result) (sym told) e in
    record {
      answer = w.answers;
      leaves = w.leaves;
      blank = w.blank;
      long = w.long;
      running = spared 9 (omega arith) (omega arith);
      lent = left_same s u r _ _ w spared (λ _ _. er.1);
      algebra = λ _ f h _ hp. outcome K (state s) (state u) f r _ (λ _. ⊥) (Ok xs) c.settle.result e.answers e.leaves h ((theory K g.met.K.Ring.ring g.met.K.Ring.values s).truncations k n (f p) ((state s).places p) (h p hp));
    }

pub invariant_of-desk : goal.invariant_of-desk
invariant_of-desk g c = record { free = ap (λ d. d.tables 8) c.settle.ensures.areas ∙ settled_free (contents c.change_rows-answer.new.self.areas) c.in_ok-res.res.area c.change_rows-answer.result }
