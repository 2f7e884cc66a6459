use Rattle.std.proofs.Common.{◌≡◌, [], ◌∷◌, Ok, sym, ap, ◌∙◌, subst, arith}
use Rattle.std.proofs.lemmas.Bool.{lt-ltb}
use Rattle.formats.specs.Keys.{unit}
use Rattle.formats.proofs.Keys.{sound}
use Rattle.rows.specs.Tables.{row}
use Rattle.sheets.specs.Worktops.{state}
use Rattle.sheets.specs.Calls.{limit, variable_rows}
use Rattle.sheets.proofs.Outcomes.{Ended, named, wrote-same, written_one, tested, outcome}
use Rattle.sheets.proofs.Terms.{variable_gives}
use Rattle.sheets.proofs.LentRows.{left_same, variable_is}
use Rattle.areas.specs.Areas.{answered}
use Rattle.sheets.specs.Lent.{lent_on, kept as kept_rows}
use Rattle.sheets.proofs.sheet.Sheet.variable.Goals as goal

pub returns : goal.returns
returns g c =
    let K = g.K.Ring.kind in
    let s = c.args.self.now.desk.top in
    let r = c.args.res in
    let R = c.in_ok-res.res.area in
    let er = c.in_ok-res.ensures in
    let v = c.args.variable in
    let u = c.single.new.self in
    let a = variable_rows K (state s) (unit (state s).vars v) in
    let one = limit (state s) (Ok (row c.in_ok-key.key c.one.result ∷ [])) in
    let same : a ≡ one = ap (variable_rows K (state s)) (sym c.unit.ensures ∙ c.in_ok-key.was) ∙ ap (λ x. limit (state s) (Ok (row c.in_ok-key.key x ∷ []))) (sym c.one.ensures) in
    let e = subst (λ x. Ended s u r x c.single.result) (sym same) (named s u R r one c.single.result er (written_one s u R (row c.in_ok-key.key c.one.result) c.single.result (omega arith) c.single.ensures.areas c.single.ensures.format c.single.ensures.answer)) in
    let same-working = wrote-same s u R _ (omega arith) c.single.ensures.areas in
    let w = tested s u r a c.single.result _ (lt-ltb r 8 er.1) e in
    record {
      answer = w.answers;
      leaves = w.leaves;
      told = w.answers ∙ ap answered (sym (variable_is K s r (unit (state s).vars c.args.variable)));
      blank = w.blank;
      long = w.long;
      running = same-working 9 (omega arith) (omega arith);
      lent = left_same s u r _ _ w same-working (λ _ _. er.1) ∙ ap (kept_rows K (lent_on s) r) (sym (variable_is K s r (unit (state s).vars c.args.variable)));
      algebra = λ f h _ hv. outcome K (state s) (state u) f r _ _ a c.single.result e.answers e.leaves h (variable_gives K g.met.K.Ring.ring (state s) g.met.K.Ring.values v (sound s.format) hv);
    }

pub invariant_of-desk : goal.invariant_of-desk
invariant_of-desk g c =
    let s = c.args.self.now.desk.top in
    record { free = wrote-same s c.single.new.self c.in_ok-res.res.area _ (omega arith) c.single.ensures.areas 8 (omega arith) (omega arith) ∙ c.args.self.now.desk.free }
