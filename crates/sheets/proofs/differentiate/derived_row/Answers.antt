use Rattle.std.proofs.Common.{◌-◌, sym, ap, ◌∙◌}
use Rattle.formats.specs.Drafts.{variables}
use Rattle.formats.specs.Keys.{replaced}
use Rattle.sheets.proofs.Changing.{not_refused, lowered-key}
use Rattle.sheets.proofs.differentiate.derived_row.Goals as goal

pub returns-in_err-key : goal.returns-in_err-key
returns-in_err-key g c =
    let vs = variables c.args.format.now in
    let k = c.args.row.key in
    let v = c.args.variable in
    let e = c.exponent-exponent.ensures in
    absurd (not_refused _ _ (sym c.in_err-key.was ∙ c.replace.ensures ∙ ap (λ n. replaced vs k v (n - 1)) e ∙ lowered-key vs v k (λ z. c.if-exponent-eq0.false (e ∙ z))))
