use Rattle.std.proofs.Common.{sym, ap, ◌∙◌}
use Rattle.rings.proofs.values.tells_apart.Goals as goal

pub returns : goal.returns
returns g c =
    let K = g.K.Ring.kind in
    let laws = g.met.K.Ring.values in
    let ring = g.met.K.Ring.ring in
    record {
      values = λ e. ring.one_not_zero (sym (laws.means K.ops.one K.one_value laws.one) ∙ ap K.meaning (sym e) ∙ laws.means K.ops.zero K.zero_value laws.zero);
      sum = ap K.value (ring.plus_comm K.ops.zero K.ops.one ∙ ring.plus_zero K.ops.one) ∙ laws.one;
    }
