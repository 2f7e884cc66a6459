-- The cards of a polynomial. Bytes: 10 ends a card, 32 is a blank, 44 a comma; a minus sign leads a negative number, and no zeros lead.
--     commas ts           the texts ts, joined by commas
--     figures K v         the figures of the coefficient v, joined by commas
--     exponents es        the exponents es, joined by commas
--     card K vs x         the card of the row x: figures, a blank, exponents, byte 10
--     ending K            the card that ends a deck: the figures of zero
--     deck K vs xs        the cards of the rows xs, and the one that ends them
use Rattle.std.specs.Prelude.{ℕ, cond, List, [], ◌∷◌, ◌++◌, map, decimal, ◌==◌}
use Rattle.std.specs.Fmt.{signed_decimal}
use Rattle.rings.specs.Kinds.{Kind}
use Rattle.formats.specs.Keys.{unpack}
use Rattle.formats.specs.declared.variable.Variable.{Variable}
use Rattle.rows.specs.declared.Row.{Row}

abbrev pub commas : List (List ℕ) → List ℕ
commas [] = []
commas (t ∷ []) = t
commas (t ∷ u ∷ ts) = t ++ 44 ∷ commas (u ∷ ts)

abbrev pub figures : {V : Type 0} → Kind V → V → List ℕ
figures K v = cond (K.count == 1) (signed_decimal (K.first v)) (signed_decimal (K.first v) ++ 44 ∷ signed_decimal (K.second v))

abbrev pub exponents : List ℕ → List ℕ
exponents es = commas (map decimal es)

abbrev pub card : {V : Type 0} → Kind V → List Variable → Row V → List ℕ
card K vs x = figures K x.coefficient ++ (32 ∷ (exponents (unpack vs x.key) ++ 10 ∷ []))

abbrev pub ending : {V : Type 0} → Kind V → List ℕ
ending K = figures K K.zero_value ++ 10 ∷ []

abbrev pub deck : {V : Type 0} → Kind V → List Variable → List (Row V) → List ℕ
deck K vs [] = ending K
deck K vs (x ∷ xs) = card K vs x ++ deck K vs xs
