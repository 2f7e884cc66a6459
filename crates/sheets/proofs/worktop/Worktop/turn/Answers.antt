use Rattle.std.proofs.Common.{◌≡◌, ◌-◌, sym, refl, ◌∙◌, subst, arith}
use Rattle.std.proofs.lemmas.Bool.{cond-true}
use Rattle.areas.specs.Areas.{contents, scaling}
use Rattle.sheets.specs.Worktops.{state}
use Rattle.sheets.specs.Ends.{Making}
use Rattle.sheets.specs.Working.{turned, table}
use Rattle.sheets.proofs.States.{with_areas, passed}
use Rattle.sheets.proofs.Outcomes.{apart_areas}
use Rattle.sheets.proofs.worktop.Worktop.turn.Goals as goal

pub returns-clause-makes : goal.returns-clause-makes
returns-clause-makes g c =
    let K = g.K.Ring.kind in
    let s = c.args.self.now in
    let at = c.args.at in
    let to = 21 - at in
    let t = with_areas s c.add_scaled.new.self in
    let a = scaling K (contents s.areas) to at c.args.factors c.args.row in
    let same : a ≡ turned K (state s).vars (state s).room c.args.greatest.now (table s at) (table s c.args.factors) c.args.row =
    cond-true _ _ _ (apart_areas to at c.args.factors (omega arith) (omega arith) (omega arith) (λ x. omega arith) (λ x. omega arith)) ∙ sym (cond-true _ _ _ (sym c.allows.ensures ∙ c.if-not-allows.false)) in
    let m = passed 10 to s t a c.add_scaled.result c.made_in.result (omega arith) (omega arith) c.add_scaled.ensures.leaves refl c.add_scaled.ensures.answer c.made_in.ensures in
    subst (λ x. Making 10 s t x c.made_in.result) same m
