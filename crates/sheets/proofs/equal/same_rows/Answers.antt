use Rattle.std.proofs.Common.{rules, tests, ◌≡◌, sym, ap, ◌∙◌}
use Rattle.std.specs.List.{list_all, zip}
use Rattle.std.proofs.lemmas.Bool.{ne_eqb}
use Rattle.std.proofs.lemmas.Iterator.{YieldsList-from_zip, YieldsList-from_slice}
use Rattle.std.proofs.lemmas.Iterator.Search.{all_from_yields_List}
use Rattle.sheets.proofs.Comparing.{same_pair, unequal_lengths, same_pairs}
use Rattle.sheets.proofs.equal.same_rows.Goals as goal

pub returns-then-left-right : goal.returns-then-left-right
returns-then-left-right g c =
    let K = g.K.Ring.kind in
    let pairs = YieldsList-from_zip (YieldsList-from_slice c.args.left.now (ap (λ s. s.rest.now) c.zip.ensures.first ∙ c.iter.ensures.rest)) (YieldsList-from_slice c.args.right.now c.zip.ensures.second.0) in
    let all : c.all.result ≡ list_all (same_pair K) (zip c.args.left.now c.args.right.now) = all_from_yields_List (same_pair K) c.all.new.self _ c.all.result c.all.ensures.ran pairs (λ x b q k. search (rules, tests)) in
    all ∙ same_pairs K c.args.left.now c.args.right.now c.if-left-right.true

pub returns-else-left-right : goal.returns-else-left-right
returns-else-left-right g c = ne_eqb _ _ c.if-left-right.false ∙ sym (unequal_lengths g.K.Ring.kind c.args.left.now c.args.right.now c.if-left-right.false)
