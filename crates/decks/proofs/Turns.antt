-- The turns of the work on a deck. Assumes nothing.
--     Left e u q i         what is read from the byte i on, at the card e with the term u and the state q
--     reading-byte, reading_end      the turn at a byte, and at the end of the text
use Rattle.std.proofs.Common.{◌≡◌, ℕ, ◌+◌, ◌<◌, ◌≤◌, List, length, get_or, drop, Err, Result, sym, ap, ◌∙◌, add-one}
use Rattle.std.proofs.lemmas.List.{drop_more, drop_all}
use Rattle.refusals.specs.declared.Refusal.TheVariants.{TextEnds}
use Rattle.rings.specs.Kinds.{Kind}
use Rattle.formats.specs.declared.variable.Variable.{Variable}
use Rattle.texts.specs.Numbers as numbers
use Rattle.texts.specs.Numbers.{worked, closed}
use Rattle.texts.specs.Terms as terms
use Rattle.texts.specs.Terms.{taken}
use Rattle.texts.specs.Terms.Partial.{none}
use Rattle.texts.specs.Reading.{through, Deck, Entering, with_step, reading}

module _ {S V : Type 0} (K : Kind V) (vs : List Variable) (enter : Entering S V) (text : List ℕ) where
  abbrev pub Left : numbers.Card → terms.Partial V → S → ℕ → Result (Deck S) numbers.Fault
  Left d t s i = reading K vs enter d t s i (drop i text)

  module _ (d : numbers.Card) (t : terms.Partial V) (s : S) (i : ℕ) where
    pub reading-byte : i < length text → Left d t s i ≡ with_step K vs enter s t (i + through (drop i text)) (worked d i (get_or text i 0)) (λ e u q. Left e u q (i + 1))
    reading-byte h =
        let split = drop_more text i 0 h in
        ap (reading K vs enter d t s i) split
        ∙ (λ j. with_step K vs enter s t (i + through (sym split j)) (worked d i (get_or text i 0)) (λ e u q. reading K vs enter e u q (sym (add-one i) j) (drop (i + 1) text)))

    pub reading_end : length text ≤ i → Left d t s i ≡ with_step K vs enter s t i (closed d) (λ _ _ _. Err (record { refusal = TextEnds; byte = i }))
    reading_end h = ap (reading K vs enter d t s i) (drop_all i text h)
