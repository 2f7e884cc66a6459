use Rattle.std.proofs.Common.{rules, ◌≡◌, [], ◌∷◌, length, take, drop, ◌<◌, not, sym, ap, ap₂, ◌∙◌, arith}
use Rattle.std.specs.Option.{unwrap_or}
use Rattle.limbozafe.specs.Words.{words, blank}
use borrow.Author.Tests.{tests}
use Rattle.std.proofs.lemmas.Iterator.{YieldsList-from_slice}
use Rattle.std.proofs.lemmas.Iterator.Search.{position_from_yields_List}
use Rattle.std.proofs.lemmas.List.Sums.{prefix_len-le-length}
use Rattle.limbozafe.proofs.Places.{found, missed, or_length}
use Rattle.limbozafe.proofs.Splits.{cut, gap, run}
use Rattle.limbozafe.proofs.line_words.WordsIterator.next.Goals as goal

pub returns-in_err-start-clause-steps : goal.returns-in_err-start-clause-steps
returns-in_err-start-clause-steps c =
    let line = c.args.self.now.0.now in
    let e = position_from_yields_List (λ b. not (blank b)) _ _ c.position.result c.position.ensures.ran (YieldsList-from_slice line c.iter.ensures.rest) (λ x b q k. search (rules, tests)) in
    let none : words line ≡ [] = (cut blank line).none (missed _ _ (sym c.in_err-start.was ∙ e)) in
    search (rules, none)

pub returns-clause-steps : goal.returns-clause-steps
returns-clause-steps c =
    let line = c.args.self.now.0.now in
    let left = c.split_at.result.1.now in
    let e = position_from_yields_List (λ b. not (blank b)) _ _ c.position.result c.position.ensures.ran (YieldsList-from_slice line c.iter.ensures.rest) (λ x b q k. search (rules, tests)) in
    let f = position_from_yields_List blank _ _ c.position-2.result c.position-2.ensures.ran (YieldsList-from_slice left c.iter-2.ensures.rest) (λ x b q k. search (rules, tests)) in
    let start = found _ _ _ (sym c.in_ok-start.was ∙ e) in
    let end : c.unwrap_or-end.result ≡ run blank left = c.unwrap_or-end.ensures ∙ ap (λ r. unwrap_or r (length left)) f ∙ or_length _ _ (prefix_len-le-length _ left) in
    let same : drop (gap blank line) line ≡ left = ap (λ k. drop k line) start.0 ∙ sym c.split_at.ensures.back in
    (cut blank line).some start.1 ∙ ap (λ ys. take (run blank ys) ys ∷ words (drop (run blank ys) ys)) same
    ∙ ap (λ k. take k left ∷ words (drop k left)) (sym end)
    ∙ ap₂ (λ word rest. word ∷ words rest) (sym c.split_at-2.ensures.front) (sym c.split_at-2.ensures.back)

pub returns-clause-goes : goal.returns-clause-goes
returns-clause-goes c =
    let fewer : length (words c.split_at-2.result.1.now) < length (words c.args.self.now.0.now) = rw (returns-clause-steps c) (omega arith) in
    search (rules, fewer)
