use Rattle.std.proofs.Common.{◌≡◌, ap, ◌∙◌}
use Rattle.areas.specs.Areas.{contents}
use Rattle.sheets.specs.Worktops.{state}
use Rattle.sheets.specs.Ends.{finished}
use Rattle.sheets.proofs.States.{stored-made, stored-none}
use Rattle.sheets.proofs.worktop.Worktop.finish.Goals as goal
use Rattle.sheets.proofs.worktop.Worktop.finish.Goals.{in-Ok, in_default}

pub returns-clause-leaves : goal.returns-clause-leaves
returns-clause-leaves g c =
    let s = c.args.self.now in
    let u = c.match-made.self in
    let stored : state u ≡ finished (state s) (contents s.areas) c.args.res.area c.args.made = elim c.match-made.branch [
      | in-Ok w ↦ stored-made s u c.args.res.area c.args.made c.args.res.placed w.in-Ok.area w.in-Ok.is (ap (λ u. contents u.areas) w.self-is ∙ w.copy.ensures.leaves) (ap (λ u. u.format) w.self-is)
      | in_default w ↦ stored-none s u c.args.res.area c.args.made (λ a e. w.in_default.not-Ok a e) w.self-is
    ] in
    c.sweep.ensures.leaves ∙ stored

pub returns-clause-long : goal.returns-clause-long
returns-clause-long g c =
    let s = c.args.self.now in
    let u = c.match-made.self in
    let as-long : (contents u.areas).lent ≡ (contents s.areas).lent = elim c.match-made.branch [
      | in-Ok w ↦ ap (λ u. (contents u.areas).lent) w.self-is ∙ ap (λ c. c.lent) w.copy.ensures.leaves
      | in_default w ↦ ap (λ u. (contents u.areas).lent) w.self-is
    ] in
    c.sweep.ensures.long ∙ as-long
