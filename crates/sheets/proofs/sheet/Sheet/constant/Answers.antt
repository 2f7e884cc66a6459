use Rattle.std.proofs.Common.{◌≡◌, [], ◌∷◌, Ok, sym, refl, ap, ◌∙◌, subst, arith, w64}
use Rattle.std.proofs.lemmas.Int.{to_z-of_z}
use Rattle.std.proofs.lemmas.Bool.{lt-ltb, cond-true, cond-false}
use Rattle.rows.specs.Tables.{row}
use Rattle.sheets.specs.Worktops.{state}
use Rattle.sheets.specs.Calls.{limit, constant_rows}
use Rattle.sheets.specs.Promises.{constant_of, NoConstant}
use Rattle.sheets.proofs.States.{with_areas}
use Rattle.sheets.proofs.Outcomes.{Ended, named, wrote-same, written, written_one, tested, outcome}
use Rattle.sheets.proofs.Terms.{constant_gives}
use Rattle.sheets.proofs.LentRows.{left_same, constant_is}
use Rattle.areas.specs.Areas.{answered}
use Rattle.sheets.specs.Lent.{lent_on, kept as kept_rows}
use Rattle.sheets.proofs.sheet.Sheet.constant.Goals as goal

pub returns-then-is_zero : goal.returns-then-is_zero
returns-then-is_zero g c =
    let K = g.K.Ring.kind in
    let s = c.args.self.now.desk.top in
    let r = c.args.res in
    let R = c.in_ok-res.res.area in
    let er = c.in_ok-res.ensures in
    let u = with_areas s c.clear.new.self in
    let figures = K.make c.args.first c.args.second in
    let made : figures ≡ Ok c.in_ok-coefficient.coefficient = sym (λ i. K.make (to_z-of_z w64 c.args.first c.ranges.first i) (to_z-of_z w64 c.args.second c.ranges.second i)) ∙ sym c.from_figures.ensures ∙ c.in_ok-coefficient.was in
    let same : constant_rows K (state s) figures ≡ Ok [] = ap (constant_rows K (state s)) made ∙ cond-true _ _ _ (sym c.is_zero.ensures ∙ c.if-is_zero.true) in
    let e = subst (λ x. Ended s u r x (Ok tt)) (sym same) (named s u R r (Ok []) (Ok tt) er (written s u R [] (omega arith) c.clear.ensures.leaves refl)) in
    let same-working = wrote-same s u R [] (omega arith) c.clear.ensures.leaves in
    let w = tested s u r (constant_rows K (state s) figures) (Ok tt) _ (lt-ltb r 8 er.1) e in
    record {
      answer = w.answers;
      leaves = w.leaves;
      told = w.answers ∙ ap answered (sym (constant_is K s r (K.make c.args.first c.args.second)));
      blank = w.blank;
      long = w.long;
      running = same-working 9 (omega arith) (omega arith);
      lent = left_same s u r _ _ w same-working (λ _ _. er.1) ∙ ap (kept_rows K (lent_on s) r) (sym (constant_is K s r (K.make c.args.first c.args.second)));
      algebra = λ f h _. outcome K (state s) (state u) f r (constant_of K figures) (NoConstant K (state s) figures) (constant_rows K (state s) figures) (Ok tt) e.answers e.leaves h (constant_gives K g.met.K.Ring.ring (state s) figures (g.met.K.Ring.writing.made c.args.first c.args.second));
    }

pub returns : goal.returns
returns g c =
    let K = g.K.Ring.kind in
    let s = c.args.self.now.desk.top in
    let r = c.args.res in
    let R = c.in_ok-res.res.area in
    let er = c.in_ok-res.ensures in
    let u = c.single.new.self in
    let figures = K.make c.args.first c.args.second in
    let made : figures ≡ Ok c.in_ok-coefficient.coefficient = sym (λ i. K.make (to_z-of_z w64 c.args.first c.ranges.first i) (to_z-of_z w64 c.args.second c.ranges.second i)) ∙ sym c.from_figures.ensures ∙ c.in_ok-coefficient.was in
    let one = limit (state s) (Ok (row 0 c.in_ok-coefficient.coefficient ∷ [])) in
    let same : constant_rows K (state s) figures ≡ one = ap (constant_rows K (state s)) made ∙ cond-false _ _ _ (sym c.is_zero.ensures ∙ c.if-is_zero.false) in
    let e = subst (λ x. Ended s u r x c.single.result) (sym same) (named s u R r one c.single.result er (written_one s u R (row 0 c.in_ok-coefficient.coefficient) c.single.result (omega arith) c.single.ensures.areas c.single.ensures.format c.single.ensures.answer)) in
    let same-working = wrote-same s u R _ (omega arith) c.single.ensures.areas in
    let w = tested s u r (constant_rows K (state s) figures) c.single.result _ (lt-ltb r 8 er.1) e in
    record {
      answer = w.answers;
      leaves = w.leaves;
      told = w.answers ∙ ap answered (sym (constant_is K s r (K.make c.args.first c.args.second)));
      blank = w.blank;
      long = w.long;
      running = same-working 9 (omega arith) (omega arith);
      lent = left_same s u r _ _ w same-working (λ _ _. er.1) ∙ ap (kept_rows K (lent_on s) r) (sym (constant_is K s r (K.make c.args.first c.args.second)));
      algebra = λ f h _. outcome K (state s) (state u) f r (constant_of K figures) (NoConstant K (state s) figures) (constant_rows K (state s) figures) c.single.result e.answers e.leaves h (constant_gives K g.met.K.Ring.ring (state s) figures (g.met.K.Ring.writing.made c.args.first c.args.second));
    }

pub invariant_of-desk : goal.invariant_of-desk
invariant_of-desk g c =
    let s = c.args.self.now.desk.top in
    record { free = wrote-same s (with_areas s c.clear.new.self) c.in_ok-res.res.area [] (omega arith) c.clear.ensures.leaves 8 (omega arith) (omega arith) ∙ c.args.self.now.desk.free }

pub invariant_of-desk-2 : goal.invariant_of-desk-2
invariant_of-desk-2 g c =
    let s = c.args.self.now.desk.top in
    record { free = wrote-same s c.single.new.self c.in_ok-res.res.area _ (omega arith) c.single.ensures.areas 8 (omega arith) (omega arith) ∙ c.args.self.now.desk.free }
