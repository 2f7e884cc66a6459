use Rattle.std.proofs.Common.{◌≡◌, drop, replicate}
use Rattle.formats.specs.Drafts.{variables}
use Rattle.sheets.specs.Working.{highest}
use Rattle.sheets.proofs.product.greatest_of.Given as goal

abbrev pub invariant-loop-row : goal.invariant-loop-row
invariant-loop-row g l = highest (variables l.format) l.greatest (drop l.row-index l.rows) ≡ highest (variables l.format) (replicate 8 0) l.rows
