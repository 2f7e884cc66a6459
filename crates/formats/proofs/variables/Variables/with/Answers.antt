use Rattle.std.proofs.Common.{◌≡◌, length, rules}
use Rattle.formats.proofs.Adding.{addable, push-few, push_ok, push-narrow, push-counted}
use Rattle.formats.proofs.variables.Variables.with.Goals as goal

pub invariant_of-self : goal.invariant_of-self
invariant_of-self c =
    let long : length c.args.self.entries ≡ 8 = search rules in
    let may = addable _ _ _ c.in_ok-test.ensures in
    let few = c.args.self.few in
    record { counted = push-counted _ _ _ _ long may few; few = push-few _ _ _ _ long may few; ok = push_ok _ _ _ _ long may few c.args.self.ok; narrow = push-narrow _ _ _ _ long may few }
