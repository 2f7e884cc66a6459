use Rattle.std.proofs.Common.{[], ap, ◌∙◌, arith}
use Rattle.formats.specs.Drafts.{variables}
use Rattle.areas.specs.Areas.{contents}
use Rattle.sheets.specs.States.{seen}
use Rattle.sheets.proofs.States.{table-there, table-other, seen-working}
use Rattle.sheets.proofs.desk.Desk.begin.Goals as goal

pub returns-clause-empty : goal.returns-clause-empty
returns-clause-empty g c = ap (λ d. d.tables 9) c.clear.ensures.leaves ∙ table-there (contents c.args.self.now.top.areas) 9 [] (omega arith)

pub returns-clause-leaves : goal.returns-clause-leaves
returns-clause-leaves g c =
    let s = c.args.self.now in
    ap (λ d. seen d (variables s.top.format)) c.clear.ensures.leaves ∙ seen-working (contents s.top.areas) (variables s.top.format) 9 [] (omega arith)

pub invariant_of-self : goal.invariant_of-self
invariant_of-self g c = record { free = ap (λ d. d.tables 8) c.clear.ensures.leaves ∙ table-other (contents c.args.self.now.top.areas) 9 [] 8 (λ e. omega arith) ∙ c.args.self.now.free }
