use Rattle.std.proofs.Common.{◌≡◌, refl, ap, sym, ◌∙◌, subst, Ok, rules}
use Rattle.areas.specs.Areas.{answered}
use Rattle.sheets.specs.Calls as call
use Rattle.sheets.specs.States.{kept}
use Rattle.sheets.specs.Desks.{Blank}
use Rattle.sheets.specs.declared.sheet.Sheet.{Sheet}
use Rattle.sheets.specs.Sheets.{state, rows_lent}
use Rattle.uses.specs.Dividing.{rows_of}
use Rattle.uses.specs.declared.call.Reply.TheVariants.{Done}
use Rattle.uses.proofs.Returns.{Performed, figures_back, changes, does, stops}
use Rattle.uses.proofs.single.carry_out.Goals as goal
use Rattle.uses.proofs.single.carry_out.Goals.{in-Constant+in_ok-constant-in-Constant, in-Variable+in_ok-variable-in-Variable, in-Copied+in_ok-copy-in-Copied, in-Negate+in_ok-negate-in-Negate, in-Add+in_ok-add-in-Add, in-Subtract+in_ok-subtract-in-Subtract, in-Multiply+in_ok-multiply-in-Multiply, in-Divide+in_ok-divide-in-Divide, in-Differentiate+in_ok-differentiate-in-Differentiate, in-Substitute+in_ok-substitute-in-Substitute, in-Truncate+in_ok-truncate-in-Truncate, in-MultiplyTruncate+in_ok-multiply_truncated-in-MultiplyTruncate}

pub returns-in_err-negate-in-Negate : goal.returns-in_err-negate-in-Negate
returns-in_err-negate-in-Negate g c =
    let K = g.K.Ring.kind in
    let D = g.D.Divides in
    let s = state c.args.sheet.now in
    let w = c.in-Negate in
    let told = c.from_residual-in_err-negate-in-Negate in
    let p = changes K D.divides_by s c.args.output.now c.args.call.now _ w.is (λ over. call.negated K s w.r w.p) w.r (λ over. refl) (λ over. refl) refl c.negate.result told.result (state c.negate.new.self) (stops c.negate.result told.result c.in_err-negate-in-Negate.field-0.0 c.in_err-negate-in-Negate.was told.ensures.1) (λ over by. c.negate.ensures.answer) (λ over by. c.negate.ensures.leaves) in
    record { answer = p.answer; leaves = p.leaves; output = p.output; blank = c.negate.ensures.blank; long = c.negate.ensures.long }

pub returns-in_err-copy-in-Copied : goal.returns-in_err-copy-in-Copied
returns-in_err-copy-in-Copied g c =
    let K = g.K.Ring.kind in
    let D = g.D.Divides in
    let s = state c.args.sheet.now in
    let w = c.in-Copied in
    let told = c.from_residual-in_err-copy-in-Copied in
    let p = changes K D.divides_by s c.args.output.now c.args.call.now _ w.is (λ over. call.copied s w.r w.p) w.r (λ over. refl) (λ over. refl) refl c.copy.result told.result (state c.copy.new.self) (stops c.copy.result told.result c.in_err-copy-in-Copied.field-0.0 c.in_err-copy-in-Copied.was told.ensures.1) (λ over by. c.copy.ensures.answer) (λ over by. c.copy.ensures.leaves) in
    record { answer = p.answer; leaves = p.leaves; output = p.output; blank = c.copy.ensures.blank; long = c.copy.ensures.long }

pub returns-in_err-variable-in-Variable : goal.returns-in_err-variable-in-Variable
returns-in_err-variable-in-Variable g c =
    let K = g.K.Ring.kind in
    let D = g.D.Divides in
    let s = state c.args.sheet.now in
    let w = c.in-Variable in
    let told = c.from_residual-in_err-variable-in-Variable in
    let p = changes K D.divides_by s c.args.output.now c.args.call.now _ w.is (λ over. call.variable K s w.r w.v) w.r (λ over. refl) (λ over. refl) refl c.variable.result told.result (state c.variable.new.self) (stops c.variable.result told.result c.in_err-variable-in-Variable.field-0.0 c.in_err-variable-in-Variable.was told.ensures.1) (λ over by. c.variable.ensures.answer) (λ over by. c.variable.ensures.leaves) in
    record { answer = p.answer; leaves = p.leaves; output = p.output; blank = c.variable.ensures.blank; long = c.variable.ensures.long }

pub returns-in_err-add-in-Add : goal.returns-in_err-add-in-Add
returns-in_err-add-in-Add g c =
    let K = g.K.Ring.kind in
    let D = g.D.Divides in
    let s = state c.args.sheet.now in
    let w = c.in-Add in
    let told = c.from_residual-in_err-add-in-Add in
    let p = changes K D.divides_by s c.args.output.now c.args.call.now _ w.is (λ over. call.added K s w.r w.p w.q) w.r (λ over. refl) (λ over. refl) refl c.add.result told.result (state c.add.new.self) (stops c.add.result told.result c.in_err-add-in-Add.field-0.0 c.in_err-add-in-Add.was told.ensures.1) (λ over by. c.add.ensures.answer) (λ over by. c.add.ensures.leaves) in
    record { answer = p.answer; leaves = p.leaves; output = p.output; blank = c.add.ensures.blank; long = c.add.ensures.long }

pub returns-in_err-subtract-in-Subtract : goal.returns-in_err-subtract-in-Subtract
returns-in_err-subtract-in-Subtract g c =
    let K = g.K.Ring.kind in
    let D = g.D.Divides in
    let s = state c.args.sheet.now in
    let w = c.in-Subtract in
    let told = c.from_residual-in_err-subtract-in-Subtract in
    let p = changes K D.divides_by s c.args.output.now c.args.call.now _ w.is (λ over. call.subtracted K s w.r w.p w.q) w.r (λ over. refl) (λ over. refl) refl c.subtract.result told.result (state c.subtract.new.self) (stops c.subtract.result told.result c.in_err-subtract-in-Subtract.field-0.0 c.in_err-subtract-in-Subtract.was told.ensures.1) (λ over by. c.subtract.ensures.answer) (λ over by. c.subtract.ensures.leaves) in
    record { answer = p.answer; leaves = p.leaves; output = p.output; blank = c.subtract.ensures.blank; long = c.subtract.ensures.long }

pub returns-in_err-multiply-in-Multiply : goal.returns-in_err-multiply-in-Multiply
returns-in_err-multiply-in-Multiply g c =
    let K = g.K.Ring.kind in
    let D = g.D.Divides in
    let s = state c.args.sheet.now in
    let w = c.in-Multiply in
    let told = c.from_residual-in_err-multiply-in-Multiply in
    let p = changes K D.divides_by s c.args.output.now c.args.call.now _ w.is (λ over. call.multiplied K s w.r w.p w.q) w.r (λ over. refl) (λ over. refl) refl c.multiply.result told.result (state c.multiply.new.self) (stops c.multiply.result told.result c.in_err-multiply-in-Multiply.field-0.0 c.in_err-multiply-in-Multiply.was told.ensures.1) (λ over by. c.multiply.ensures.answer) (λ over by. c.multiply.ensures.leaves) in
    record { answer = p.answer; leaves = p.leaves; output = p.output; blank = c.multiply.ensures.blank; long = c.multiply.ensures.long }

pub returns-in_err-divide-in-Divide : goal.returns-in_err-divide-in-Divide
returns-in_err-divide-in-Divide g c =
    let K = g.K.Ring.kind in
    let D = g.D.Divides in
    let s = state c.args.sheet.now in
    let w = c.in-Divide in
    let told = c.from_residual-in_err-divide-in-Divide in
    let may = g.met.D.Divides.there w._leave in
    let p = changes K D.divides_by s c.args.output.now c.args.call.now _ w.is (λ over. call.divided K over s w.r w.p w.q) w.r (λ over. refl) (λ over. refl) refl c.divide.result told.result (state c.divide.new.sheet) (stops c.divide.result told.result c.in_err-divide-in-Divide.field-0.0 c.in_err-divide-in-Divide.was told.ensures.1) (λ over by. c.divide.ensures.answer over by ∙ ap (λ b. answered (rows_of K over b s w.r w.p w.q)) may) (λ over by. c.divide.ensures.leaves over by ∙ ap (λ b. kept s w.r (rows_of K over b s w.r w.p w.q)) may) in
    record { answer = p.answer; leaves = p.leaves; output = p.output; blank = c.divide.ensures.blank; long = c.divide.ensures.long }

pub returns-in_err-differentiate-in-Differentiate : goal.returns-in_err-differentiate-in-Differentiate
returns-in_err-differentiate-in-Differentiate g c =
    let K = g.K.Ring.kind in
    let D = g.D.Divides in
    let s = state c.args.sheet.now in
    let w = c.in-Differentiate in
    let told = c.from_residual-in_err-differentiate-in-Differentiate in
    let p = changes K D.divides_by s c.args.output.now c.args.call.now _ w.is (λ over. call.differentiated K s w.r w.p w.v) w.r (λ over. refl) (λ over. refl) refl c.differentiate.result told.result (state c.differentiate.new.self) (stops c.differentiate.result told.result c.in_err-differentiate-in-Differentiate.field-0.0 c.in_err-differentiate-in-Differentiate.was told.ensures.1) (λ over by. c.differentiate.ensures.answer) (λ over by. c.differentiate.ensures.leaves) in
    record { answer = p.answer; leaves = p.leaves; output = p.output; blank = c.differentiate.ensures.blank; long = c.differentiate.ensures.long }

pub returns-in_err-substitute-in-Substitute : goal.returns-in_err-substitute-in-Substitute
returns-in_err-substitute-in-Substitute g c =
    let K = g.K.Ring.kind in
    let D = g.D.Divides in
    let s = state c.args.sheet.now in
    let w = c.in-Substitute in
    let told = c.from_residual-in_err-substitute-in-Substitute in
    let p = changes K D.divides_by s c.args.output.now c.args.call.now _ w.is (λ over. call.substituted K s w.r w.p w.q w.v) w.r (λ over. refl) (λ over. refl) refl c.substitute.result told.result (state c.substitute.new.self) (stops c.substitute.result told.result c.in_err-substitute-in-Substitute.field-0.0 c.in_err-substitute-in-Substitute.was told.ensures.1) (λ over by. c.substitute.ensures.answer) (λ over by. c.substitute.ensures.leaves) in
    record { answer = p.answer; leaves = p.leaves; output = p.output; blank = c.substitute.ensures.blank; long = c.substitute.ensures.long }

pub returns-in_err-multiply_truncated-in-MultiplyTruncate : goal.returns-in_err-multiply_truncated-in-MultiplyTruncate
returns-in_err-multiply_truncated-in-MultiplyTruncate g c =
    let K = g.K.Ring.kind in
    let D = g.D.Divides in
    let s = state c.args.sheet.now in
    let w = c.in-MultiplyTruncate in
    let told = c.from_residual-in_err-multiply_truncated-in-MultiplyTruncate in
    let p = changes K D.divides_by s c.args.output.now c.args.call.now _ w.is (λ over. call.multiplied_truncated K s w.r w.p w.q w.k w.n) w.r (λ over. refl) (λ over. refl) refl c.multiply_truncated.result told.result (state c.multiply_truncated.new.self) (stops c.multiply_truncated.result told.result c.in_err-multiply_truncated-in-MultiplyTruncate.field-0.0 c.in_err-multiply_truncated-in-MultiplyTruncate.was told.ensures.1) (λ over by. c.multiply_truncated.ensures.answer) (λ over by. c.multiply_truncated.ensures.leaves) in
    record { answer = p.answer; leaves = p.leaves; output = p.output; blank = c.multiply_truncated.ensures.blank; long = c.multiply_truncated.ensures.long }

pub returns-in_err-constant-in-Constant : goal.returns-in_err-constant-in-Constant
returns-in_err-constant-in-Constant g c =
    let K = g.K.Ring.kind in
    let D = g.D.Divides in
    let s = state c.args.sheet.now in
    let w = c.in-Constant in
    let same = figures_back K s w.r w.a w.b (search rules) (search rules) in
    let told = c.from_residual-in_err-constant-in-Constant in
    let p = changes K D.divides_by s c.args.output.now c.args.call.now _ w.is (λ over. call.constant K s w.r w.a w.b) w.r (λ over. refl) (λ over. refl) refl c.constant.result told.result (state c.constant.new.self) (stops c.constant.result told.result c.in_err-constant-in-Constant.field-0.0 c.in_err-constant-in-Constant.was told.ensures.1) (λ over by. c.constant.ensures.answer ∙ ap answered same) (λ over by. c.constant.ensures.leaves ∙ ap (kept s w.r) same) in
    record { answer = p.answer; leaves = p.leaves; output = p.output; blank = c.constant.ensures.blank; long = c.constant.ensures.long }

pub returns-in_err-truncate-in-Truncate : goal.returns-in_err-truncate-in-Truncate
returns-in_err-truncate-in-Truncate g c =
    let K = g.K.Ring.kind in
    let D = g.D.Divides in
    let s = state c.args.sheet.now in
    let w = c.in-Truncate in
    let told = c.from_residual-in_err-truncate-in-Truncate in
    let p = changes K D.divides_by s c.args.output.now c.args.call.now _ w.is (λ over. call.truncated s w.r w.p w.k w.n) w.r (λ over. refl) (λ over. refl) refl c.truncate.result told.result (state c.truncate.new.self) (stops c.truncate.result told.result c.in_err-truncate-in-Truncate.field-0.0 c.in_err-truncate-in-Truncate.was told.ensures.1) (λ over by. c.truncate.ensures.answer) (λ over by. c.truncate.ensures.leaves) in
    record { answer = p.answer; leaves = p.leaves; output = p.output; blank = c.truncate.ensures.blank; long = c.truncate.ensures.long }

pub returns : goal.returns
returns g c =
    let K = g.K.Ring.kind in
    let D = g.D.Divides in
    let s = state c.args.sheet.now in
    let Does = λ (u : Sheet _ _). (Performed K D.divides_by s c.args.output.now c.args.call.now (Ok Done) (state u) c.args.output.now) × ((Blank c.args.sheet.now.desk → Blank u.desk) × (rows_lent u ≡ rows_lent c.args.sheet.now)) in
    let by = changes K D.divides_by s c.args.output.now c.args.call.now in
    let p : Does c.match-call.sheet = elim c.match-call.branch [
      | in-Constant+in_ok-constant-in-Constant w ↦ (
          let same = figures_back K s w.in-Constant.r w.in-Constant.a w.in-Constant.b (search rules) (search rules) in
          subst Does (sym w.sheet-is) (by _ w.in-Constant.is (λ over. call.constant K s w.in-Constant.r w.in-Constant.a w.in-Constant.b) w.in-Constant.r (λ over. refl) (λ over. refl) refl w.constant.result (Ok Done) (state w.constant.new.self) (does w.constant.result w.in_ok-constant-in-Constant.was) (λ over by. w.constant.ensures.answer ∙ ap answered same) (λ over by. w.constant.ensures.leaves ∙ ap (kept s w.in-Constant.r) same), (w.constant.ensures.blank, w.constant.ensures.long)))
      | in-Variable+in_ok-variable-in-Variable w ↦ subst Does (sym w.sheet-is) (by _ w.in-Variable.is (λ over. call.variable K s w.in-Variable.r w.in-Variable.v) w.in-Variable.r (λ over. refl) (λ over. refl) refl w.variable.result (Ok Done) (state w.variable.new.self) (does w.variable.result w.in_ok-variable-in-Variable.was) (λ over by. w.variable.ensures.answer) (λ over by. w.variable.ensures.leaves), (w.variable.ensures.blank, w.variable.ensures.long))
      | in-Copied+in_ok-copy-in-Copied w ↦ subst Does (sym w.sheet-is) (by _ w.in-Copied.is (λ over. call.copied s w.in-Copied.r w.in-Copied.p) w.in-Copied.r (λ over. refl) (λ over. refl) refl w.copy.result (Ok Done) (state w.copy.new.self) (does w.copy.result w.in_ok-copy-in-Copied.was) (λ over by. w.copy.ensures.answer) (λ over by. w.copy.ensures.leaves), (w.copy.ensures.blank, w.copy.ensures.long))
      | in-Negate+in_ok-negate-in-Negate w ↦ subst Does (sym w.sheet-is) (by _ w.in-Negate.is (λ over. call.negated K s w.in-Negate.r w.in-Negate.p) w.in-Negate.r (λ over. refl) (λ over. refl) refl w.negate.result (Ok Done) (state w.negate.new.self) (does w.negate.result w.in_ok-negate-in-Negate.was) (λ over by. w.negate.ensures.answer) (λ over by. w.negate.ensures.leaves), (w.negate.ensures.blank, w.negate.ensures.long))
      | in-Add+in_ok-add-in-Add w ↦ subst Does (sym w.sheet-is) (by _ w.in-Add.is (λ over. call.added K s w.in-Add.r w.in-Add.p w.in-Add.q) w.in-Add.r (λ over. refl) (λ over. refl) refl w.add.result (Ok Done) (state w.add.new.self) (does w.add.result w.in_ok-add-in-Add.was) (λ over by. w.add.ensures.answer) (λ over by. w.add.ensures.leaves), (w.add.ensures.blank, w.add.ensures.long))
      | in-Subtract+in_ok-subtract-in-Subtract w ↦ subst Does (sym w.sheet-is) (by _ w.in-Subtract.is (λ over. call.subtracted K s w.in-Subtract.r w.in-Subtract.p w.in-Subtract.q) w.in-Subtract.r (λ over. refl) (λ over. refl) refl w.subtract.result (Ok Done) (state w.subtract.new.self) (does w.subtract.result w.in_ok-subtract-in-Subtract.was) (λ over by. w.subtract.ensures.answer) (λ over by. w.subtract.ensures.leaves), (w.subtract.ensures.blank, w.subtract.ensures.long))
      | in-Multiply+in_ok-multiply-in-Multiply w ↦ subst Does (sym w.sheet-is) (by _ w.in-Multiply.is (λ over. call.multiplied K s w.in-Multiply.r w.in-Multiply.p w.in-Multiply.q) w.in-Multiply.r (λ over. refl) (λ over. refl) refl w.multiply.result (Ok Done) (state w.multiply.new.self) (does w.multiply.result w.in_ok-multiply-in-Multiply.was) (λ over by. w.multiply.ensures.answer) (λ over by. w.multiply.ensures.leaves), (w.multiply.ensures.blank, w.multiply.ensures.long))
      | in-Divide+in_ok-divide-in-Divide w ↦ (
          let r = w.in-Divide.r in
          let p = w.in-Divide.p in
          let q = w.in-Divide.q in
          let may = g.met.D.Divides.there w.in-Divide._leave in
          subst Does (sym w.sheet-is) (by _ w.in-Divide.is (λ over. call.divided K over s r p q) r (λ over. refl) (λ over. refl) refl w.divide.result (Ok Done) (state w.divide.new.sheet) (does w.divide.result w.in_ok-divide-in-Divide.was) (λ over by. w.divide.ensures.answer over by ∙ ap (λ b. answered (rows_of K over b s r p q)) may) (λ over by. w.divide.ensures.leaves over by ∙ ap (λ b. kept s r (rows_of K over b s r p q)) may), (w.divide.ensures.blank, w.divide.ensures.long)))
      | in-Differentiate+in_ok-differentiate-in-Differentiate w ↦ subst Does (sym w.sheet-is) (by _ w.in-Differentiate.is (λ over. call.differentiated K s w.in-Differentiate.r w.in-Differentiate.p w.in-Differentiate.v) w.in-Differentiate.r (λ over. refl) (λ over. refl) refl w.differentiate.result (Ok Done) (state w.differentiate.new.self) (does w.differentiate.result w.in_ok-differentiate-in-Differentiate.was) (λ over by. w.differentiate.ensures.answer) (λ over by. w.differentiate.ensures.leaves), (w.differentiate.ensures.blank, w.differentiate.ensures.long))
      | in-Substitute+in_ok-substitute-in-Substitute w ↦ subst Does (sym w.sheet-is) (by _ w.in-Substitute.is (λ over. call.substituted K s w.in-Substitute.r w.in-Substitute.p w.in-Substitute.q w.in-Substitute.v) w.in-Substitute.r (λ over. refl) (λ over. refl) refl w.substitute.result (Ok Done) (state w.substitute.new.self) (does w.substitute.result w.in_ok-substitute-in-Substitute.was) (λ over by. w.substitute.ensures.answer) (λ over by. w.substitute.ensures.leaves), (w.substitute.ensures.blank, w.substitute.ensures.long))
      | in-Truncate+in_ok-truncate-in-Truncate w ↦ subst Does (sym w.sheet-is) (by _ w.in-Truncate.is (λ over. call.truncated s w.in-Truncate.r w.in-Truncate.p w.in-Truncate.k w.in-Truncate.n) w.in-Truncate.r (λ over. refl) (λ over. refl) refl w.truncate.result (Ok Done) (state w.truncate.new.self) (does w.truncate.result w.in_ok-truncate-in-Truncate.was) (λ over by. w.truncate.ensures.answer) (λ over by. w.truncate.ensures.leaves), (w.truncate.ensures.blank, w.truncate.ensures.long))
      | in-MultiplyTruncate+in_ok-multiply_truncated-in-MultiplyTruncate w ↦ subst Does (sym w.sheet-is) (by _ w.in-MultiplyTruncate.is (λ over. call.multiplied_truncated K s w.in-MultiplyTruncate.r w.in-MultiplyTruncate.p w.in-MultiplyTruncate.q w.in-MultiplyTruncate.k w.in-MultiplyTruncate.n) w.in-MultiplyTruncate.r (λ over. refl) (λ over. refl) refl w.multiply_truncated.result (Ok Done) (state w.multiply_truncated.new.self) (does w.multiply_truncated.result w.in_ok-multiply_truncated-in-MultiplyTruncate.was) (λ over by. w.multiply_truncated.ensures.answer) (λ over by. w.multiply_truncated.ensures.leaves), (w.multiply_truncated.ensures.blank, w.multiply_truncated.ensures.long))
    ] in
    record { answer = p.0.answer; leaves = p.0.leaves; output = p.0.output; blank = p.1.0; long = p.1.1 }
