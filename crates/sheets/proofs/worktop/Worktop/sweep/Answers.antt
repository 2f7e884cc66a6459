use Rattle.formats.specs.Drafts.{variables}
use Rattle.areas.specs.Areas.{contents}
use Rattle.sheets.proofs.States.{swept_places, swept_areas, swept_lent}
use Rattle.sheets.proofs.worktop.Worktop.sweep.Goals as goal

pub returns : goal.returns
returns g c =
    let was = contents c.args.self.now.areas in
    let c₈ = contents c.clear.new.self in
    let c₉ = contents c.clear-2.new.self in
    let c₁₀ = contents c.clear-3.new.self in
    let c₁₁ = contents c.clear-4.new.self in
    let e₈ = c.clear.ensures.leaves in
    let e₉ = c.clear-2.ensures.leaves in
    let e₁₀ = c.clear-3.ensures.leaves in
    let e₁₁ = c.clear-4.ensures.leaves in
    record {
      leaves = swept_places was c₈ c₉ c₁₀ c₁₁ e₈ e₉ e₁₀ e₁₁ (variables c.args.self.now.format);
      blank = swept_areas was c₈ c₉ c₁₀ c₁₁ e₈ e₉ e₁₀ e₁₁;
      long = swept_lent was c₈ c₉ c₁₀ c₁₁ e₈ e₉ e₁₀ e₁₁;
    }
