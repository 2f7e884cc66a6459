use Rattle.std.proofs.Common.{length}
use Rattle.areas.proofs.Storing.{opened, opened-tidy}
use Rattle.areas.proofs.twelve.Areas.open.Goals as goal

pub invariant_of-result : goal.invariant_of-result
invariant_of-result g c = record { tidy = opened-tidy g.K.Ring.kind (length c.args.rows.now) c.blank_rows.new.rows c.blank_rows.ensures }

pub returns : goal.returns
returns g c = record { holds = opened g.K.Ring.kind (length c.args.rows.now) c.blank_rows.new.rows c.blank_rows.ensures }
