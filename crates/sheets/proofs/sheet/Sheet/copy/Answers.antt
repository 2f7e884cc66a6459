use Rattle.std.proofs.Common.{Ok, refl, ap, ◌∙◌, arith}
use Rattle.areas.specs.Areas.{contents, storing}
use Rattle.sheets.specs.Worktops.{state}
use Rattle.sheets.proofs.States.{with_areas}
use Rattle.sheets.proofs.Outcomes.{two_placed, place-found, named, wrote-same, written, tested, outcome}
use Rattle.sheets.proofs.LentRows.{left_same}
use Rattle.sheets.proofs.sheet.Sheet.copy.Goals as goal

pub returns : goal.returns
returns g c =
    let K = g.K.Ring.kind in
    let s = c.args.self.now.desk.top in
    let r = c.args.res in
    let p = c.args.place in
    let R = c.in_ok-res.res.area in
    let P = c.in_ok-place.place.area in
    let er = c.in_ok-res.ensures in
    let ep = c.in_ok-place.ensures in
    let u = with_areas s c.copy.new.self in
    let e = named s u R r (Ok ((state s).places p)) (Ok tt) er (written s u R ((state s).places p) (omega arith) (c.copy.ensures.leaves ∙ ap (storing (contents s.areas) R) (place-found s P p ep)) refl) in
    let same = wrote-same s u R ((state s).places p) (omega arith) (c.copy.ensures.leaves ∙ ap (storing (contents s.areas) R) (place-found s P p ep)) in
    let w = tested s u r (Ok ((state s).places p)) (Ok tt) _ (two_placed r p er.1 ep.1) e in
    record {
      answer = w.answers;
      leaves = w.leaves;
      blank = w.blank;
      long = w.long;
      running = same 9 (omega arith) (omega arith);
      lent = left_same s u r _ _ w same (λ _ _. er.1);
      algebra = λ f h _ hp. outcome K (state s) (state u) f r (f p) (λ _. ⊥) (Ok ((state s).places p)) (Ok tt) e.answers e.leaves h (h p hp);
    }

pub invariant_of-desk : goal.invariant_of-desk
invariant_of-desk g c =
    let s = c.args.self.now.desk.top in
    record { free = wrote-same s (with_areas s c.copy.new.self) c.in_ok-res.res.area _ (omega arith) c.copy.ensures.leaves 8 (omega arith) (omega arith) ∙ c.args.self.now.desk.free }
