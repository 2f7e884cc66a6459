use Rattle.std.proofs.Common.{◌≡◌, is_err, sym, ap, ◌∙◌}
use Rattle.std.proofs.lemmas.Bool.{cond-true}
use Rattle.formats.specs.Drafts.{variables}
use Rattle.rows.specs.Tables.{row}
use Rattle.areas.specs.Areas.{contents, rows_of, pushed}
use Rattle.sheets.specs.States.{seen}
use Rattle.sheets.specs.Desks.{state}
use Rattle.sheets.specs.Running.{running, below_last, entering}
use Rattle.sheets.proofs.Entering.{accepted-rows, refused_rows, held-state, held-first}
use Rattle.sheets.proofs.desk.Desk.enter.Goals as goal

pub returns-else-is_err-clause-made : goal.returns-else-is_err-clause-made
returns-else-is_err-clause-made g c =
    let s = c.args.self.now in
    let x = row c.args.key c.args.coefficient in
    let P = pushed (contents s.top.areas) 9 x in
    let is : entering g.K.Ring.kind (state s).room (running s) x ≡ P = cond-true _ _ _ (ap (below_last c.args.key) (sym c.table.ensures) ∙ sym c.below_last.ensures ∙ c.if-not-below_last.false) in
    let good = ap is_err (sym c.push-answer.ensures.answer) ∙ sym c.is_err.ensures.value ∙ c.if-is_err.false in
    ap (λ d. d.tables 9) c.push-answer.ensures.leaves ∙ accepted-rows (contents s.top.areas) P good ∙ ap rows_of (sym is)

pub returns-else-is_err-clause-leaves : goal.returns-else-is_err-clause-leaves
returns-else-is_err-clause-leaves g c =
    let s = c.args.self.now in
    ap (λ d. seen d (variables s.top.format)) c.push-answer.ensures.leaves ∙ held-state (contents s.top.areas) (variables s.top.format) (pushed (contents s.top.areas) 9 (row c.args.key c.args.coefficient))

pub invariant_of-self : goal.invariant_of-self
invariant_of-self g c =
    let s = c.args.self.now in
    record { free = ap (λ d. d.tables 8) c.push-answer.ensures.leaves ∙ held-first (contents s.top.areas) (pushed (contents s.top.areas) 9 (row c.args.key c.args.coefficient)) ∙ s.free }

pub returns-then-is_err-clause-made : goal.returns-then-is_err-clause-made
returns-then-is_err-clause-made g c =
    let s = c.args.self.now in
    let x = row c.args.key c.args.coefficient in
    let P = pushed (contents s.top.areas) 9 x in
    let is : entering g.K.Ring.kind (state s).room (running s) x ≡ P = cond-true _ _ _ (ap (below_last c.args.key) (sym c.table.ensures) ∙ sym c.below_last.ensures ∙ c.if-not-below_last.false) in
    let bad = ap is_err (sym c.push-answer.ensures.answer) ∙ sym c.is_err.ensures.value ∙ c.if-is_err.true in
    c.begin.ensures.empty ∙ sym (refused_rows (contents s.top.areas) P bad) ∙ ap rows_of (sym is)
