use Rattle.std.proofs.Common.{◌≡◌, ◌==◌, ◌+◌, ℕ, List, [], ◌∷◌, length, MatchOption, rules, arith, ◌∙◌}
use borrow.Author.Tests.{tests}
use Rattle.std.specs.List.{position_from}
use Rattle.std.proofs.lemmas.Grind.{common_steps}
use Rattle.std.proofs.lemmas.Iterator.{YieldsList-from_slice}
use Rattle.std.proofs.lemmas.Iterator.Adapters.{position_from-zero}
use Rattle.std.proofs.lemmas.Iterator.Search.{position_from_yields_List}
use Rattle.texts.specs.Reading.{through}
use Rattle.decks.proofs.ending.card_len.Goals as goal

-- the first byte 10 of the bytes from index i on ends their card
ends_card : (bs : List ℕ) (i n : ℕ) → MatchOption (position_from (λ b. b == 10) i bs) (n ≡ i + length bs) (λ e. n ≡ e + 1) → n ≡ i + through bs
ends_card [] i n found = found
ends_card (b ∷ bs) i n found = grind (arith, common_steps, ends_card bs (i + 1) n)

pub returns : goal.returns
returns c =
    let first = position_from_yields_List (λ b. b == 10) _ _ c.position.result c.position.ensures.ran (YieldsList-from_slice c.args.text.now cc) (λ x b q k. search (rules, tests)) ∙ position_from-zero (λ b. b == 10) c.args.text.now in
    let found : MatchOption c.position.result (c.map_or.result ≡ 0 + length c.args.text.now) (λ e. c.map_or.result ≡ e + 1) = search rules in
    omega (arith, ends_card c.args.text.now 0 c.map_or.result (rw first at found))
