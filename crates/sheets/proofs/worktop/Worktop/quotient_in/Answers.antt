use Rattle.std.proofs.Common.{◌≡◌, ℕ, [], ◌∷◌, drop, replicate, Some, Ok, Err, Result, sym, refl, ap, ◌∙◌, subst}
use Rattle.std.proofs.lemmas.Result.{err_from_is_err_and}
use Rattle.refusals.specs.declared.Refusal.{Refusal}
use Rattle.arithmetic.specs.Dividing.{quotient}
use Rattle.sheets.specs.Calls.{row_leading}
use Rattle.sheets.specs.Worktops.{state}
use Rattle.sheets.specs.Ends.{Making}
use Rattle.sheets.specs.Working.{highest, table}
use Rattle.sheets.specs.declared.worktop.Worktop.{Worktop}
use Rattle.sheets.proofs.States.{with_areas}
use Rattle.sheets.proofs.Products.{kept-stored, making_after}
use Rattle.sheets.proofs.Divisions.{Begun, begun, begun-quotient, first_drop, all, Taken, division_none, division_row, division_full, division_taken, division_more, division_refused, division_all}
use Rattle.sheets.proofs.worktop.Worktop.quotient_in.Given as given
use Rattle.sheets.proofs.worktop.Worktop.quotient_in.Goals as goal
use Rattle.sheets.proofs.worktop.Worktop.quotient_in.Goals.{After-copy, After-turn}

begins : (g : given.Over) (c : After-copy g) → Begun c.args.self.now (with_areas c.args.self.now c.copy.new.self) c.args.left.area
begins g c =
    let s = c.args.self.now in
    let mid = with_areas s c.clear.new.self in
    let start = with_areas s c.copy.new.self in
    begun s mid start c.args.left.area c.args.left.placed c.clear.ensures.leaves (kept-stored s mid 8 [] c.clear.ensures.leaves refl) c.copy.ensures.leaves (kept-stored mid start 10 (table mid c.args.left.area) c.copy.ensures.leaves refl)

leads : (g : given.Over) (c : After-copy g) → row_leading (table c.args.self.now c.args.right.area) ≡ Some c.in_ok-by.by
leads g c = sym (c.first_row.ensures ∙ ap row_leading c.table.ensures) ∙ c.in_ok-by.ensures.ok_part

-- what was made since the first step was made since the call
since : (g : given.Over) (c : After-copy g) (u : Worktop g.row.K.Denot g.K.Ring) (made : Result ℕ Refusal) → let start = with_areas c.args.self.now c.copy.new.self in Making 8 start u (all g.K.Ring.kind g.K.Domain.quotient c.in_ok-by.by (drop 1 (table start c.args.right.area)) start) made → Making 8 c.args.self.now u (quotient g.K.Ring.kind g.K.Domain.quotient (state c.args.self.now).vars (state c.args.self.now).room (table c.args.self.now c.args.left.area) (table c.args.self.now c.args.right.area)) made
since g c u made m =
    let K = g.K.Ring.kind in
    let s = c.args.self.now in
    let start = with_areas s c.copy.new.self in
    let b = begins g c in
    making_after 8 s start u _ _ made b.kept (begun-quotient K g.K.Domain.quotient c.in_ok-by.by s start c.args.left.area c.args.right.area c.args.right.placed (leads g c) b) m

taken : (g : given.Over) (c : After-turn g) → let start = with_areas c.args.self.now c.copy.new.self in Taken g.K.Ring.kind g.K.Domain.quotient c.in_ok-by.by (drop 1 (table start c.args.right.area)) start c.loop-first.self c.turn.new.self c.loop-first.at c.turn.result
taken g c =
    let K = g.K.Ring.kind in
    let s = c.args.self.now in
    let start = with_areas s c.copy.new.self in
    let q = c.args.right.area in
    let t = c.loop-first.self in
    let y = c.in_ok-by.by in
    let ds = drop 1 (table start q) in
    let mid = with_areas t c.push.new.self in
    let k = (begins g (goal.at.After-turn g c).After-copy).kept in
    let divisor : table start q ≡ y ∷ ds = first_drop (table start q) y (ap row_leading (k.others q c.args.right.placed) ∙ leads g (goal.at.After-turn g c).After-copy) in
    let most : c.greatest_of-greatest.result ≡ highest (state start).vars (replicate 8 0) (y ∷ ds) = c.greatest_of-greatest.ensures ∙ ap (highest (state start).vars (replicate 8 0)) (c.table-2.ensures ∙ sym (k.others q c.args.right.placed) ∙ divisor) in
    let first = sym (c.first_row-in-loop-first.ensures ∙ ap row_leading c.table-in-loop-first.ensures) ∙ c.in-Some.is in
    division_taken K g.K.Domain.quotient y ds start t c.loop-first.at c.loop-first.invariant c.in-Some.first first c.in_ok-row.row (sym c.quotient_row.ensures ∙ c.in_ok-row.was) mid c.push.result c.push.ensures.answer c.push.ensures.leaves refl c.in_ok-push.was q c.args.right.placed divisor c.greatest_of-greatest.result most c.opposite.result c.opposite.ensures c.turn.new.self c.turn.result c.turn.ensures.makes c.turn.ensures.area

pub loop-first-init : goal.loop-first-init
loop-first-init g c =
    let start = with_areas c.args.self.now c.copy.new.self in
    division_none g.K.Ring.kind g.K.Domain.quotient c.in_ok-by.by (drop 1 (table start c.args.right.area)) start (begins g c).none

pub returns-in_err-row : goal.returns-in_err-row
returns-in_err-row g c =
    let K = g.K.Ring.kind in
    let over = g.K.Domain.quotient in
    let s = c.args.self.now in
    let start = with_areas s c.copy.new.self in
    let q = c.args.right.area in
    let t = c.loop-first.self in
    let first = sym (c.first_row-in-loop-first.ensures ∙ ap row_leading c.table-in-loop-first.ensures) ∙ c.in-Some.is in
    let refused = division_row K over c.in_ok-by.by (drop 1 (table start q)) start t c.loop-first.at c.loop-first.invariant c.in-Some.first first c.in_err-row.field-0.0 (sym c.quotient_row.ensures ∙ c.in_err-row.was) in
    let p = err_from_is_err_and c.from_residual-in_err-row.result c.from_residual-in_err-row.ensures.1 in
    subst (Making 8 s t (quotient K over (state s).vars (state s).room (table s c.args.left.area) (table s q))) (sym (p.1 ∙ ap Err p.2)) (since g (goal.at.returns-in_err-row g c).After-copy t _ refused)

pub returns-in_err-push : goal.returns-in_err-push
returns-in_err-push g c =
    let K = g.K.Ring.kind in
    let over = g.K.Domain.quotient in
    let s = c.args.self.now in
    let start = with_areas s c.copy.new.self in
    let q = c.args.right.area in
    let t = c.loop-first.self in
    let mid = with_areas t c.push.new.self in
    let first = sym (c.first_row-in-loop-first.ensures ∙ ap row_leading c.table-in-loop-first.ensures) ∙ c.in-Some.is in
    let refused = division_full K over c.in_ok-by.by (drop 1 (table start q)) start t c.loop-first.at c.loop-first.invariant c.in-Some.first first c.in_ok-row.row (sym c.quotient_row.ensures ∙ c.in_ok-row.was) mid c.push.result c.push.ensures.answer c.push.ensures.leaves refl c.in_err-push.field-0.0 c.in_err-push.was in
    let p = err_from_is_err_and c.from_residual-in_err-push.result c.from_residual-in_err-push.ensures.1 in
    subst (Making 8 s mid (quotient K over (state s).vars (state s).room (table s c.args.left.area) (table s q))) (sym (p.1 ∙ ap Err p.2)) (since g (goal.at.returns-in_err-push g c).After-copy mid _ refused)

pub returns-in_err-at : goal.returns-in_err-at
returns-in_err-at g c =
    let K = g.K.Ring.kind in
    let over = g.K.Domain.quotient in
    let s = c.args.self.now in
    let start = with_areas s c.copy.new.self in
    let q = c.args.right.area in
    let u = c.turn.new.self in
    let refused = division_refused K over c.in_ok-by.by (drop 1 (table start q)) start c.loop-first.self u c.loop-first.at c.turn.result (taken g (goal.at.returns-in_err-at g c).After-turn) c.in_err-at.field-0.0 c.in_err-at.was in
    let p = err_from_is_err_and c.from_residual-in_err-at.result c.from_residual-in_err-at.ensures.1 in
    subst (Making 8 s u (quotient K over (state s).vars (state s).room (table s c.args.left.area) (table s q))) (sym (p.1 ∙ ap Err p.2)) (since g (goal.at.returns-in_err-at g c).After-copy u _ refused)

pub loop-first-smaller : goal.loop-first-smaller
loop-first-smaller g c = (taken g (goal.at.loop-first-smaller g c).After-turn).falls

pub loop-first-preserved : goal.loop-first-preserved
loop-first-preserved g c =
    let start = with_areas c.args.self.now c.copy.new.self in
    division_more g.K.Ring.kind g.K.Domain.quotient c.in_ok-by.by (drop 1 (table start c.args.right.area)) start c.loop-first.self c.turn.new.self c.loop-first.at c.turn.result (taken g (goal.at.loop-first-preserved g c).After-turn) c.loop-first.invariant c.in_ok-at.at c.in_ok-at.was

pub returns : goal.returns
returns g c =
    let start = with_areas c.args.self.now c.copy.new.self in
    let none = sym (c.first_row-in-loop-first.ensures ∙ ap row_leading c.table-in-loop-first.ensures) ∙ c.in_default.is in
    since g (goal.at.returns g c).After-copy c.loop-first.self (Ok 8) (division_all g.K.Ring.kind g.K.Domain.quotient c.in_ok-by.by (drop 1 (table start c.args.right.area)) start c.loop-first.self c.loop-first.at c.loop-first.invariant none)
