use Rattle.std.proofs.Common.{cond, Some, None, Ok, ◌∙◌, rules}
use Rattle.formats.specs.Drafts.{variables}
use Rattle.rows.specs.declared.Row.{Row}
use Rattle.sheets.specs.Working.{table}
use Rattle.sheets.proofs.Changing.{chosen-rows}
use Rattle.sheets.proofs.Gathering.{low_with, near-chosen, gathered}
use Rattle.sheets.proofs.worktop.Worktop.gather.Goals as goal

pub returns-clause-rows : goal.returns-clause-rows
returns-clause-rows g c =
    let s = c.args.self.now in
    let vs = variables s.format in
    let k = c.args.truncation.count in
    let n = c.args.truncation.most in
    let d = c.degree-degree.result in
    let xs = table s c.args.left.area in
    let makes = λ (x : Row g.row.K.Denot). Ok (cond (low_with vs k n d x) (Some x) None) in
    gathered c.change_rows.new.self c.change_rows.result _ (c.change_rows.ensures.made makes (λ x r h. search rules) ∙ chosen-rows (low_with vs k n d) xs) ∙ near-chosen vs k n d xs c.args.row c.degree-degree.ensures
