use Rattle.std.proofs.Common.{length, ap}
use Rattle.formats.specs.Drafts.{variables}
use Rattle.areas.specs.Areas.{contents}
use Rattle.sheets.proofs.States.{seen-fresh}
use Rattle.sheets.specs.Worktops.{Blank}
use Rattle.sheets.specs.declared.worktop.Worktop.{Worktop}
use Rattle.sheets.proofs.LentRows.{lent_opened}
use Rattle.sheets.proofs.sheet.Sheet.open.Goals as goal

pub returns : goal.returns
returns g c =
    let is = c.open-areas.ensures.holds in
    let d : Worktop _ _ = record { areas = c.open-areas.result; format = c.args.format } in
    let e = seen-fresh (contents c.open-areas.result) (length c.args.rows.now) (variables c.args.format) is in
    let rest : Blank d = λ a low high. ap (λ d. d.tables a) is in
    record { state = e; blank = rest; long = ap (λ d. d.lent) is; lent = lent_opened d rest (length c.args.rows.now) (ap (λ d. d.lent) is) e }

pub invariant_of-result : goal.invariant_of-result
invariant_of-result g c = record { free = ap (λ d. d.tables 8) c.open-areas.ensures.holds }
