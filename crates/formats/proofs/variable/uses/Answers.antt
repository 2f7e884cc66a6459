use Rattle.std.proofs.Common.{◌==◌, rules, tests, ◌∙◌, sym}
use Rattle.std.proofs.lemmas.Iterator.{YieldsList-from_slice}
use Rattle.std.proofs.lemmas.Iterator.Search.{any_from_yields_List}
use Rattle.formats.proofs.Walks.{used_is_any}
use Rattle.formats.proofs.variable.uses.Goals as goal

pub returns : goal.returns
returns c =
    any_from_yields_List (λ v. v.letter == c.args.letter) _ _ _ c.any.ensures.ran (YieldsList-from_slice c.args.variables.now cc) (λ x b q k. search (rules, tests))
    ∙ sym (used_is_any c.args.letter c.args.variables.now)
