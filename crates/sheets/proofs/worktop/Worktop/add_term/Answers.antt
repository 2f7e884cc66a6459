use Rattle.std.proofs.Common.{Err, sym, refl, ap, ◌∙◌, subst, arith}
use Rattle.std.proofs.lemmas.Result.{err_from_is_err_and}
use Rattle.areas.specs.Areas.{contents}
use Rattle.formats.specs.Drafts.{variables}
use Rattle.sheets.specs.Ends.{Making, made_in}
use Rattle.sheets.specs.Working.{table}
use Rattle.sheets.proofs.States.{with_areas}
use Rattle.arithmetic.specs.Substituting.{term_raised}
use Rattle.sheets.proofs.Changing.{not_refused}
use Rattle.sheets.proofs.Products.{kept-stored}
use Rattle.sheets.proofs.Substitutions.{row-raised, row-refused, row-over, row_summed}
use Rattle.sheets.proofs.worktop.Worktop.add_term.Given as given
use Rattle.sheets.proofs.worktop.Worktop.add_term.Goals as goal
use Rattle.sheets.proofs.worktop.Worktop.add_term.Goals.{After-raise}

-- the table of the row
raised : (g : given.Over) (c : After-raise g) → Making 9 c.args.self.now c.raise.new.self (term_raised g.K.Ring.kind (variables c.args.self.now.format) (contents c.args.self.now.areas).room c.args.variable (table c.args.self.now c.args.right.area) c.args.row) (made_in 9 c.raise.result)
raised g c =
    let K = g.K.Ring.kind in
    let s = c.args.self.now in
    let t = c.begin_term.new.self in
    row-raised K s t c.raise.new.self c.args.right.area (omega arith) _ c.exponent-power.result _ c.raise.result (subst (Making 9 s t _) (ap (made_in 9) c.in_ok-begin_term.was) c.begin_term.ensures) c.exponent-power.ensures c.raise.ensures

pub returns-in_err-begin_term : goal.returns-in_err-begin_term
returns-in_err-begin_term g c =
    let m = subst (Making 9 c.args.self.now c.begin_term.new.self _) (ap (made_in 9) c.in_err-begin_term.was) c.begin_term.ensures in
    absurd (not_refused _ _ m.result)

pub returns-in_err-raise : goal.returns-in_err-raise
returns-in_err-raise g c =
    let K = g.K.Ring.kind in
    let s = c.args.self.now in
    let u = c.raise.new.self in
    let m = subst (Making 9 s u _) (ap (made_in 9) c.in_err-raise.was) (raised g (goal.at.returns-in_err-raise g c).After-raise) in
    let p = err_from_is_err_and c.from_residual-in_err-raise.result c.from_residual-in_err-raise.ensures.1 in
    subst (Making 8 s u _) (sym (ap (made_in 8) (p.1 ∙ ap Err p.2))) (row-refused K s _ u c.in_err-raise.field-0.0 m)

pub returns-in_err-add : goal.returns-in_err-add
returns-in_err-add g c =
    let K = g.K.Ring.kind in
    let s = c.args.self.now in
    let t = c.raise.new.self in
    let u = with_areas t c.add.new.self in
    let m = subst (Making 9 s t _) (ap (made_in 9) c.in_ok-raise.was) (raised g (goal.at.returns-in_err-add g c).After-raise) in
    let p = err_from_is_err_and c.from_residual-in_err-add.result c.from_residual-in_err-add.ensures.1 in
    subst (Making 8 s u _) (sym (ap (made_in 8) (p.1 ∙ ap Err p.2))) (row-over K s _ t u m c.add.result c.add.ensures.answer (kept-stored t u 10 _ c.add.ensures.leaves refl) c.in_err-add.field-0.0 c.in_err-add.was)

pub returns : goal.returns
returns g c =
    let K = g.K.Ring.kind in
    let s = c.args.self.now in
    let t = c.raise.new.self in
    let u = with_areas t c.add.new.self in
    let v = with_areas t c.copy.new.self in
    let m = subst (Making 9 s t _) (ap (made_in 9) c.in_ok-raise.was) (raised g (goal.at.returns g c).After-raise) in
    row_summed K s _ t u m c.add.result c.add.ensures.answer c.add.ensures.leaves (kept-stored t u 10 _ c.add.ensures.leaves refl) c.in_ok-add.was v c.copy.ensures.leaves (kept-stored u v 8 _ c.copy.ensures.leaves refl)
