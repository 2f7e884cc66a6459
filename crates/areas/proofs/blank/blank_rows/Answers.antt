use Rattle.std.proofs.Common.{replicate, ap, ◌∙◌, rules}
use Rattle.rows.specs.Tables.{blank}
use Rattle.areas.proofs.Passes.{filled_with}
use Rattle.areas.proofs.blank.blank_rows.Goals as goal

pub returns : goal.returns
returns g c =
    filled_with _ (blank g.K.Ring.kind) (λ p x q k. search rules) c.fill_with.new.self _ _ c.fill_with.ensures.ran.1 ∙ ap (λ n. replicate n (blank g.K.Ring.kind)) c.fill_with.ensures.len
