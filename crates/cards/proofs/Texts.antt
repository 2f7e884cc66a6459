-- Texts, part by part. Assumes nothing.
--     later es            the exponents es, with a comma before each
--     exponents-later     exponents are the first and then the later ones
--     later-more          the later exponents from one on
--     deck-more, deck-end     what is left of a deck, from a row and past the last row
--     unpacked            the exponents that a card shows
--     figures_two         the figures of a kind that has two, as they come from their bits
use Rattle.std.proofs.Common.{◌≡◌, ℕ, ◌+◌, ◌-◌, ◌<◌, ◌≤◌, eqb, List, [], ◌∷◌, ◌++◌, length, get_or, take, drop, replicate, ℤ, decimal, sym, ap, ◌∙◌, arith, w64, SFits, to_z, of_z}
use Rattle.std.specs.Fmt.{signed_decimal}
use Rattle.std.proofs.lemmas.List.{append-nil, take_at, take_all, at_drop_more, at_drop_all}
use Rattle.std.proofs.lemmas.Int.{to_z-of_z}
use Rattle.std.proofs.lemmas.Bool.{ne_eqb, cond-false}
use Rattle.rings.specs.Kinds.{Kind}
use Rattle.formats.specs.declared.variable.Variable.{Variable}
use Rattle.formats.specs.Keys.{unpack}
use Rattle.formats.proofs.Turns.{length_unpack}
use Rattle.rows.specs.declared.Row.{Row}
use Rattle.texts.specs.Decks.{figures, exponents, card, deck}

abbrev pub later : List ℕ → List ℕ
later [] = []
later (e ∷ es) = 44 ∷ (decimal e ++ later es)

exponents_first : (e : ℕ) (es : List ℕ) → exponents (e ∷ es) ≡ decimal e ++ later es
exponents_first e [] = sym (append-nil (decimal e))
exponents_first e (f ∷ es) = ap (λ l. decimal e ++ 44 ∷ l) (exponents_first f es)

pub exponents-later : (es : List ℕ) → 1 ≤ length es → exponents es ≡ decimal (get_or es 0 0) ++ later (take (length es - 1) (drop 1 es))
exponents-later [] h = absurd (omega arith)
exponents-later (e ∷ es) h = exponents_first e es ∙ ap (λ l. decimal e ++ later l) (sym (take_all (length (e ∷ es) - 1) es (omega arith)))

pub later-more : (es : List ℕ) (i : ℕ) → i < length es → later (drop i es) ≡ 44 ∷ (decimal (get_or es i 0) ++ later (drop (i + 1) es))
later-more es i h = at_drop_more later es i 0 h

module _ {V : Type 0} (K : Kind V) (vs : List Variable) (xs : List (Row V)) where
  pub deck-more : (i : ℕ) (x : Row V) → i < length xs → x ≡ get_or xs i x → deck K vs (drop i xs) ≡ card K vs x ++ deck K vs (drop (i + 1) xs)
  deck-more i x h is = at_drop_more (deck K vs) xs i x h ∙ ap (λ y. card K vs y ++ deck K vs (drop (i + 1) xs)) (sym is)

  pub deck-end : (i : ℕ) → length xs ≤ i → (z : V) → z ≡ K.zero_value → deck K vs (drop i xs) ≡ figures K z ++ 10 ∷ []
  deck-end i h z is = at_drop_all (deck K vs) xs i h ∙ ap (λ v. figures K v ++ 10 ∷ []) (sym is)

pub unpacked : (vs : List Variable) (k n : ℕ) (out : List ℕ) → out ≡ unpack vs k ++ replicate (8 - length vs) 0 → n ≡ length vs → take n out ≡ unpack vs k
unpacked vs k n out e f = (λ i. take (f i) (e i)) ∙ take_at (unpack vs k) _ (length vs) (length_unpack vs k)

pub figures_two : {V : Type 0} (K : Kind V) (v : V) (n : ℕ) (r : ℤ × ℤ) → n ≡ K.count → (n ≡ 1 → ⊥) → r ≡ (K.first v, K.second v) → SFits w64 r.0 → SFits w64 r.1 → figures K v ≡ signed_decimal (to_z w64 (of_z w64 r.0)) ++ (44 ∷ [] ++ signed_decimal (to_z w64 (of_z w64 r.1)))
figures_two K v n r e ne f a b =
    cond-false (eqb K.count 1) _ _ (ne_eqb K.count 1 (λ x. ne (e ∙ x))) ∙ sym (ap (λ p. signed_decimal p.0 ++ 44 ∷ signed_decimal p.1) f)
    ∙ sym (λ i. signed_decimal (to_z-of_z w64 r.0 a i) ++ 44 ∷ signed_decimal (to_z-of_z w64 r.1 b i))
