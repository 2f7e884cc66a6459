use Rattle.conduct.proofs.Settled.{over_domains}
use Rattle.conduct.proofs.uses_over_domains.Goals as goal

pub returns : goal.returns
returns g c = λ vs sound whole.
    let m = g.met.K.Ring in
    over_domains g.K.Ring.kind m.ring m.values m.writing g.K.Domain.quotient vs sound g.met.K.Domain.division (m.wholeness whole)
