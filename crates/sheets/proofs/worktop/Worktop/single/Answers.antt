use Rattle.std.proofs.Common.{refl, ap, ◌∙◌, arith}
use Rattle.rows.specs.Tables.{row}
use Rattle.areas.specs.Areas.{contents, answered}
use Rattle.sheets.proofs.States.{pushed_alone, held_alone}
use Rattle.sheets.proofs.worktop.Worktop.single.Goals as goal

pub returns : goal.returns
returns g c =
    let s = contents c.args.self.now.areas in
    let mid = contents c.clear.new.self in
    let r = c.args.res.area in
    let x = row c.args.key c.args.coefficient in
    record {
      answer = c.push.ensures.answer ∙ ap answered (pushed_alone s mid r x (omega arith) c.clear.ensures.leaves);
      areas = c.push.ensures.leaves ∙ held_alone s mid r x (omega arith) c.clear.ensures.leaves;
      format = refl;
    }
