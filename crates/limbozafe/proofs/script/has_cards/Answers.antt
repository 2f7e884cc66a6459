use Rattle.std.proofs.Common.{rules, ◌≡◌, ◌<◌, ◌≤◌, ◌↔◌, Bool, not, List, [], ◌∷◌, length, Some, None, Option, IsTrue, refl, sym, ◌∙◌, ap, arith}
use Rattle.std.specs.Prelude.{codes}
use Rattle.std.specs.List.{slice_get}
use Rattle.std.specs.Option.{is_some, option_map}
use Rattle.std.proofs.lemmas.Slice.Eq.{text_from_reads}
use Rattle.std.proofs.lemmas.Iterator.Consumers.{nth_from_yields_List, YieldsList-from_first}
use Rattle.limbozafe.specs.Words.{words, line_words}
use Rattle.limbozafe.proofs.script.has_cards.Goals as goal

-- fewer than two are left where there is no second
few : {A B : Type 0} (f : A → B) (ws : List B) (o : Option A) → option_map f o ≡ slice_get ws 1 → (none : Bool) → is_some o ≡ not none → IsTrue none ↔ (length ws < 2)
few f [] None e none n = grind arith
few f [] (Some x) e none n = grind arith
few f (w ∷ []) None e none n = grind arith
few f (w ∷ []) (Some x) e none n = grind arith
few f (w ∷ v ∷ ws) None e none n = grind arith
few f (w ∷ v ∷ ws) (Some x) e none n = grind arith

pub returns-in-Some-read : goal.returns-in-Some-read
returns-in-Some-read c =
    let ws = words c.args.words.0.now in
    let long : 4 ≤ length c.in-Some-read.field-0.now = rw c.in-Some-read.is at c.in-Some-read.len_at_least in
    let short : length c.in-Some-read.field-0.now < 5 = rw c.in-Some-read.is at c.in-Some-read.len_below in
    let name : c.in-Some-read.field-0.now ≡ codes "read" = text_from_reads _ _ (omega arith) (search rules) in
    let same : line_words c.args.name ws ≡ codes "read" ∷ ws = ap (λ o. line_words o ws) c.in-Some-read.is ∙ ap (λ w. w ∷ ws) name in
    let n = nth_from_yields_List c.nth.result c.nth.new.self 1 c.nth.ensures.ran (YieldsList-from_first (λ x. x.now) (λ s. words s.0.now) _ refl) in
    let f = few (λ x. x.now) ws c.nth.result n c.is_none.result c.is_none.ensures in
    (λ t. (ws, same, f.0 t), λ a. f.1 (let e : a.0 ≡ ws = cc in rw (sym e) a.2))
