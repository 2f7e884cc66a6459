use Rattle.std.proofs.Common.{ap, ◌∙◌, arith}
use Rattle.residues.specs.Residues.{reciprocal}
use Rattle.residues.specs.Table.{entry}
use Rattle.residues.proofs.reciprocal_of.Goals as goal

pub returns : goal.returns
returns c =
    let e = c.from.ensures in
    let p = c.requires.positive in
    let q = c.requires.below in
    entry c.from.result (omega arith) (omega arith) ∙ ap reciprocal e
