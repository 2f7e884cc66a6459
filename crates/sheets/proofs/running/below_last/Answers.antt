use Rattle.std.proofs.Common.{rules}
use Rattle.sheets.proofs.Entering.{below-told}
use Rattle.sheets.proofs.running.below_last.Goals as goal

pub returns : goal.returns
returns g c = below-told c.args.key c.args.rows.now c.last.result c.is_none_or.result c.last.ensures.item.0 c.last.ensures.item.1 (search rules)
