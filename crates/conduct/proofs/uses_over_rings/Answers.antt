use Rattle.conduct.proofs.Settled.{over_rings}
use Rattle.conduct.proofs.uses_over_rings.Goals as goal

pub returns : goal.returns
returns g c = λ over vs sound.
    let m = g.met.K.Ring in
    over_rings g.K.Ring.kind m.ring m.values m.writing over vs sound
