use Rattle.std.proofs.Common.{◌≡◌, Ok, sym, ◌∙◌, subst}
use Rattle.sheets.specs.Worktops.{state}
use Rattle.sheets.specs.Calls.{same_rows}
use Rattle.sheets.specs.Promises.{Same}
use Rattle.sheets.proofs.Outcomes.{place-found}
use Rattle.sheets.proofs.Comparing.{compared}
use Rattle.sheets.proofs.sheet.Sheet.equal.Goals as goal

pub returns-clause-algebra : goal.returns-clause-algebra
returns-clause-algebra g c =
    let K = g.K.Ring.kind in
    let s = c.args.self.now.desk.top in
    let p = c.args.left in
    let q = c.args.right in
    let is : c.same_rows.result ≡ same_rows K ((state s).places p) ((state s).places q) =
    c.same_rows.ensures ∙ (λ i. same_rows K ((c.table.ensures ∙ place-found s c.in_ok-left.left.area p c.in_ok-left.ensures) i) ((c.table-2.ensures ∙ place-found s c.in_ok-right.right.area q c.in_ok-right.ensures) i)) in
    λ f h hp hq. subst (λ t. Same K (state s) (f p) (f q) (Ok t)) (sym is) (compared K g.met.K.Ring.ring g.met.K.Ring.values (state s) (f p) (f q) ((state s).places p) ((state s).places q) (h p hp) (h q hq))
