use Rattle.std.proofs.Common.{◌≡◌, Ok, sym, ap, ◌∙◌, subst}
use Rattle.sheets.specs.Worktops.{state}
use Rattle.sheets.specs.Calls.{row_leading}
use Rattle.sheets.specs.Promises.{Leads}
use Rattle.sheets.proofs.Outcomes.{place-found}
use Rattle.sheets.proofs.Comparing.{leading-of-rows}
use Rattle.sheets.proofs.sheet.Sheet.leading.Goals as goal

pub returns-clause-algebra : goal.returns-clause-algebra
returns-clause-algebra g c =
    let K = g.K.Ring.kind in
    let s = c.args.self.now.desk.top in
    let p = c.args.place in
    let is : c.first_row.result ≡ row_leading ((state s).places p) = c.first_row.ensures ∙ ap row_leading (c.table.ensures ∙ place-found s c.in_ok-place.place.area p c.in_ok-place.ensures) in
    λ f h hp. subst (λ o. Leads K (state s) (f p) (Ok o)) (sym is) (leading-of-rows K g.met.K.Ring.ring g.met.K.Ring.values (state s) (f p) ((state s).places p) (h p hp))
