use Rattle.std.proofs.Common.{sym, ap, ◌∙◌}
use Rattle.formats.specs.Drafts.{variables}
use Rattle.areas.specs.Areas.{contents, answered}
use Rattle.sheets.proofs.Changing.{not_refused, table-room}
use Rattle.sheets.proofs.Entering.{alone-fits, merged_sum, merged_rows, merged_state, merged-first, merged_lent}
use Rattle.sheets.proofs.desk.Desk.merge.Goals as goal

pub returns-in_err-push : goal.returns-in_err-push
returns-in_err-push g c =
    let s = c.args.self.now in
    let fits = alone-fits g.K.Ring.kind (contents s.top.areas) (contents c.clear.new.self) c.args.row c.clear.ensures.leaves c.requires (table-room s.top.areas 9) in
    absurd (not_refused _ _ (sym c.in_err-push.was ∙ c.push.ensures.answer ∙ ap answered fits))

pub returns : goal.returns
returns g c =
    let K = g.K.Ring.kind in
    let s = c.args.self.now in
    let c₀ = contents s.top.areas in
    let c₁ = contents c.clear.new.self in
    let c₂ = contents c.push.new.self in
    let c₃ = contents c.add-answer.new.self in
    let c₄ = contents c.copy.new.self in
    let e₁ = c.clear.ensures.leaves in
    let e₂ = c.push.ensures.leaves in
    let e₃ = c.add-answer.ensures.leaves in
    let e₄ = c.copy.ensures.leaves in
    let few = table-room s.top.areas 9 in
    record {
      answer = c.add-answer.ensures.answer ∙ ap answered (merged_sum K c₀ c₁ c.args.row e₁ c.requires few c₂ c₃ c₄ e₂ e₃ e₄);
      made = merged_rows K c₀ c₁ c.args.row e₁ c.requires few c₂ c₃ c₄ e₂ e₃ e₄;
      leaves = merged_state K c₀ c₁ c.args.row e₁ c.requires few c₂ c₃ c₄ e₂ e₃ e₄ (variables s.top.format);
      long = merged_lent K c₀ c₁ c.args.row e₁ c.requires few c₂ c₃ c₄ e₂ e₃ e₄;
    }

pub invariant_of-self-2 : goal.invariant_of-self-2
invariant_of-self-2 g c =
    let s = c.args.self.now in
    record { free = merged-first g.K.Ring.kind (contents s.top.areas) (contents c.clear.new.self) c.args.row c.clear.ensures.leaves c.requires (table-room s.top.areas 9) (contents c.push.new.self) (contents c.add-answer.new.self) (contents c.copy.new.self) c.push.ensures.leaves c.add-answer.ensures.leaves c.copy.ensures.leaves ∙ s.free }

pub invariant_of-self : goal.invariant_of-self
invariant_of-self g c =
    let s = c.args.self.now in
    let fits = alone-fits g.K.Ring.kind (contents s.top.areas) (contents c.clear.new.self) c.args.row c.clear.ensures.leaves c.requires (table-room s.top.areas 9) in
    absurd (not_refused _ _ (sym c.in_err-push.was ∙ c.push.ensures.answer ∙ ap answered fits))
