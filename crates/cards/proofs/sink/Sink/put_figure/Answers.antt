use Rattle.std.proofs.Common.{[], ◌∷◌, sym, subst}
use Rattle.std.specs.Fmt.{decimal}
use Rattle.cards.proofs.Signs.{signed_negative, signed_positive}
use Rattle.cards.proofs.sink.Sink.put_figure.Goals as goal
use Rattle.cards.proofs.sink.Sink.put_figure.Goals.{then-z-lt0, else-z-lt0}

pub returns : goal.returns
returns g c =
    let P = g.Self.Sink.puts in
    let s = c.args.self.now in
    let u = c.put_decimal.new.self in
    let n = c.unsigned_abs.result in
    elim c.if-z-lt0.branch [
      | then-z-lt0 w ↦ subst (λ l. P s l u) (sym (signed_negative c.args.z n c.ranges.z c.unsigned_abs.ensures.value w.if-z-lt0.true)) (g.met.Self.Sink.laws.joined s w.put.new.self u (45 ∷ []) (decimal n) w.put.ensures (subst (λ v. P v (decimal n) u) w.self-is c.put_decimal.ensures))
      | else-z-lt0 w ↦ subst (λ l. P s l u) (sym (signed_positive c.args.z n c.ranges.z c.unsigned_abs.ensures.value w.if-z-lt0.false)) (subst (λ v. P v (decimal n) u) w.self-is c.put_decimal.ensures)
    ]
