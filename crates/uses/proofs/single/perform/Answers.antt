use Rattle.std.proofs.Common.{[], ◌∷◌, length}
use Rattle.sheets.specs.Sheets.{state}
use Rattle.uses.specs.Performing.{call_of}
use Rattle.uses.proofs.Lists.{goes_on, calls_allowed}
use Rattle.uses.proofs.single.perform.Goals as goal

pub returns-clause-promise : goal.returns-clause-promise
returns-clause-promise g c =
    let D = g.D.Divides in
    let n = length c.args.output.now in
    let call = c.args.call.now in
    λ over vs by sound whole. goes_on g.K.Ring.kind over vs D.may (state c.args.sheet.now) (state c.carry_out.new.sheet) (call_of n call ∷ []) (g.met.D.Divides.promised over vs by whole sound) (calls_allowed n D.may g.met.D.Divides.there (call ∷ [])) (c.carry_out.ensures.leaves over by)
