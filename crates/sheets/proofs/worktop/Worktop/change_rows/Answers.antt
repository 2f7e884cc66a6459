use Rattle.std.proofs.Common.{◌≡◌, ◌+◌, ◌<◌, [], length, get_or, Ok, Err, sym, refl, ap, ◌∙◌, subst, arith}
use Rattle.std.proofs.lemmas.Result.{err_from_is_err_and}
use Rattle.areas.specs.Areas.{contents, answered}
use Rattle.sheets.specs.Changes.{changed}
use Rattle.sheets.specs.Ends.{made_in, made_of}
use Rattle.sheets.specs.Working.{table, but, Kept}
use Rattle.sheets.proofs.States.{with_areas, table-there}
use Rattle.sheets.proofs.Products.{kept-stored, kept-after}
use Rattle.sheets.proofs.Changing.{not_refused, table-room, Changing, changing-none, changing-some, changing_skip, changing-fits, changing-refused, changing_all}
use Rattle.sheets.proofs.worktop.Worktop.change_rows.Given as given
use Rattle.sheets.proofs.worktop.Worktop.change_rows.Goals as goal
use Rattle.sheets.proofs.worktop.Worktop.change_rows.Goals.{After-clear, After-change, in-Some+in_ok-push, in_default}

cleared : (g : given.Over) (c : After-clear g) → Kept (but c.args.to) c.args.self.now (with_areas c.args.self.now c.clear.new.self)
cleared g c =
    let s = c.args.self.now in
    kept-stored s (with_areas s c.clear.new.self) c.args.to [] c.clear.ensures.leaves refl

more : (g : given.Over) (c : After-change g) → c.loop-i.i < length (table (with_areas c.args.self.now c.clear.new.self) c.args.from.area)
more g c = omega (arith, ap length c.table-i-end.ensures)

read : (g : given.Over) (c : After-change g) → c.index-table-i.result ≡ get_or (table (with_areas c.args.self.now c.clear.new.self) c.args.from.area) c.loop-i.i c.index-table-i.result
read g c = c.index-table-i.is ∙ ap (λ l. get_or l c.loop-i.i c.index-table-i.result) (c.table.ensures ∙ c.loop-i.invariant.kept.others c.args.from.area (λ e. omega arith))

pub loop-i-init : goal.loop-i-init
loop-i-init g c =
    let s = c.args.self.now in
    let start = with_areas s c.clear.new.self in
    changing-none (given.F-post g c.args.change) c.args.to (table start c.args.from.area) start (ap (λ d. d.tables c.args.to) c.clear.ensures.leaves ∙ table-there (contents s.areas) c.args.to [] c.requires.high)

pub returns-in_err-new : goal.returns-in_err-new
returns-in_err-new g c =
    let s = c.args.self.now in
    let start = with_areas s c.clear.new.self in
    let t = c.loop-i.self in
    let to = c.args.to in
    let post = given.F-post g c.args.change in
    let first = cleared g (goal.at.returns-in_err-new g c).After-clear in
    let after = (goal.at.returns-in_err-new g c).After-change in
    let p = err_from_is_err_and c.from_residual.result c.from_residual.ensures.1 in
    let refused = changing-refused post to (table start c.args.from.area) start t c.loop-i.i c.loop-i.invariant (more g after) c.index-table-i.result (read g after) c.in_err-new.field-0.0 (subst (post c.index-table-i.result) c.in_err-new.was c.change.ensures) in
    record {
      kept = kept-after (but to) (but to) (but to) s start t (λ o h. (h, h)) first c.loop-i.invariant.kept;
      made = λ f h. ap (λ r. made_of (contents t.areas) (made_in to r)) (p.1 ∙ ap Err p.2) ∙ refused f h ∙ ap (changed f) (first.others c.args.from.area (λ e. omega arith));
    }

pub returns-in_err-push : goal.returns-in_err-push
returns-in_err-push g c =
    let start = with_areas c.args.self.now c.clear.new.self in
    let post = given.F-post g c.args.change in
    let after = (goal.at.returns-in_err-push g c).After-change in
    let fits = changing-fits post c.args.to (table start c.args.from.area) start c.loop-i.self c.loop-i.i c.loop-i.invariant (more g after) c.index-table-i.result (read g after) c.in-Some.new (subst (post c.index-table-i.result) (c.in_ok-new.was ∙ ap Ok c.in-Some.is) c.change.ensures) c.requires.high (table-room start.areas c.args.from.area) in
    absurd (not_refused _ _ (sym c.in_err-push.was ∙ c.push.ensures.answer ∙ ap answered fits))

pub loop-i-preserved : goal.loop-i-preserved
loop-i-preserved g c =
    let start = with_areas c.args.self.now c.clear.new.self in
    let xs = table start c.args.from.area in
    let t = c.loop-i.self in
    let i = c.loop-i.i in
    let x = c.index-table-i.result in
    let post = given.F-post g c.args.change in
    let after = (goal.at.loop-i-preserved g c).After-change in
    elim c.match-branch-2.branch [
      | in-Some+in_ok-push w ↦ subst (λ u. Changing post c.args.to xs start u (i + 1)) (sym w.self-is) (changing-some post c.args.to xs start t i c.loop-i.invariant (more g after) x (read g after) w.in-Some.new (subst (post x) (c.in_ok-new.was ∙ ap Ok w.in-Some.is) c.change.ensures) c.requires.high (table-room start.areas c.args.from.area) (with_areas t w.push.new.self) w.push.ensures.leaves refl)
      | in_default w ↦ subst (λ u. Changing post c.args.to xs start u (i + 1)) (sym w.self-is) (changing_skip post c.args.to xs start t i c.loop-i.invariant (more g after) x (read g after) (subst (post x) (c.in_ok-new.was ∙ ap Ok w.in_default.is) c.change.ensures))
    ]

pub returns : goal.returns
returns g c =
    let s = c.args.self.now in
    let start = with_areas s c.clear.new.self in
    let t = c.loop-i.self in
    let to = c.args.to in
    let first = cleared g (goal.at.returns g c).After-clear in
    let all = changing_all (given.F-post g c.args.change) to (table start c.args.from.area) start t c.loop-i.i c.loop-i.invariant (omega (arith, ap length c.table-i-end.ensures)) in
    record {
      kept = kept-after (but to) (but to) (but to) s start t (λ o h. (h, h)) first c.loop-i.invariant.kept;
      made = λ f h. all f h ∙ ap (changed f) (first.others c.args.from.area (λ e. omega arith));
    }
