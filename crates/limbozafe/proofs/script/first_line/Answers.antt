use Rattle.std.proofs.Common.{◌+◌, nat_eq, take, drop, sym, ◌∙◌, ap, rules, arith}
use borrow.Author.Tests.{tests}
use Rattle.std.proofs.lemmas.List.{drop_all, take_all}
use Rattle.std.proofs.lemmas.Iterator.{YieldsList-from_slice}
use Rattle.std.proofs.lemmas.Iterator.Search.{position_from_yields_List}
use Rattle.limbozafe.proofs.Places.{found, missed}
use Rattle.limbozafe.proofs.script.first_line.Goals as goal

pub returns-in-Some-clause-first : goal.returns-in-Some-clause-first
returns-in-Some-clause-first c =
    let e = position_from_yields_List (λ b. nat_eq b 10) _ _ c.position.result c.position.ensures.ran (YieldsList-from_slice c.args.text.now c.iter.ensures.rest) (λ x b q k. search (rules, tests)) in
    let f = found _ _ _ (sym c.in-Some.is ∙ e) in
    c.split_at.ensures.front ∙ ap (λ k. take (k + 1) c.args.text.now) (sym f.0)

pub returns-in-Some-clause-rest : goal.returns-in-Some-clause-rest
returns-in-Some-clause-rest c =
    let e = position_from_yields_List (λ b. nat_eq b 10) _ _ c.position.result c.position.ensures.ran (YieldsList-from_slice c.args.text.now c.iter.ensures.rest) (λ x b q k. search (rules, tests)) in
    let f = found _ _ _ (sym c.in-Some.is ∙ e) in
    c.split_at.ensures.back ∙ ap (λ k. drop (k + 1) c.args.text.now) (sym f.0)

pub returns-in-None-clause-first : goal.returns-in-None-clause-first
returns-in-None-clause-first c =
    let e = position_from_yields_List (λ b. nat_eq b 10) _ _ c.position.result c.position.ensures.ran (YieldsList-from_slice c.args.text.now c.iter.ensures.rest) (λ x b q k. search (rules, tests)) in
    let f = missed _ _ (sym c.in-None.is ∙ e) in sym (take_all _ c.args.text.now (omega arith))

pub returns-in-None-clause-rest : goal.returns-in-None-clause-rest
returns-in-None-clause-rest c =
    let e = position_from_yields_List (λ b. nat_eq b 10) _ _ c.position.result c.position.ensures.ran (YieldsList-from_slice c.args.text.now c.iter.ensures.rest) (λ x b q k. search (rules, tests)) in
    let f = missed _ _ (sym c.in-None.is ∙ e) in sym (drop_all _ c.args.text.now (omega arith))
