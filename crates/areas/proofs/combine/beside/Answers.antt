use Rattle.std.proofs.Common.{◌≤◌, ⊎_elim, arith}
use Rattle.areas.proofs.Passes.{part-past}
use Rattle.areas.proofs.combine.beside.Goals as goal

pub returns-else-span-gap : goal.returns-else-span-gap
returns-else-span-gap g c rows l =
    let order = c.requires.beside.order in
    let past : c.args.gap.now.end ≤ c.args.span.start = ⊎_elim (λ h. absurd (omega arith)) (λ h. omega arith) c.requires.beside.clear in
    part-past c.args.before.now rows c.args.after.now _ c.args.span.start _ _ l past (omega arith)
