use Rattle.std.proofs.Common.{[], ◌∷◌, length, subst}
use Rattle.sheets.specs.Sheets.{state}
use Rattle.uses.specs.Runs.{Onward}
use Rattle.limbozafe.proofs.calls.perform_plain.Goals as goal

pub returns : goal.returns
returns g c =
    let n = length c.args.output.now in
    record { blank = c.perform.ensures.blank; long = c.perform.ensures.long; promise = λ over vs by sound whole. subst (λ x. Onward g.K.Ring.kind over vs g.D.Divides.may (state c.args.sheet.now) (x ∷ []) (state c.perform.new.sheet)) (c.among.ensures n) (c.perform.ensures.promise over vs by sound whole) }
