use Rattle.std.proofs.Common.{◌≡◌, rules, arith}
use Rattle.decks.specs.Faults as faults
use Rattle.decks.proofs.Gathering.{narrow_width}
use Rattle.decks.proofs.power.width_of.Goals as goal

pub returns-clause-narrow : goal.returns-clause-narrow
returns-clause-narrow c =
    let w : c.map_or.result ≡ faults.width_at c.variables.result.now c.args.variable = search rules in
    omega (arith, narrow_width c.variables.result.now c.variables.ensures.sound c.args.variable)
