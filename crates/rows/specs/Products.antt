-- A table times one row, added to another table.
--     key_sum j k          the sum of two keys, as a word of 64 bits
--     scaled K y xs        the rows of xs times the row y, in their order: keys added, coefficients multiplied; products that are zero left out; a refusal if a product does not fit
--     continued r f        what f makes of the rows of r, or the refusal of r
--     joined K xs y ys     the table xs plus the rows of ys times the row y
use Rattle.std.specs.Prelude.{ℕ, ◌+◌, ◌%◌, ◌^◌, List, [], ◌∷◌, Ok, Err, Result}
use Rattle.refusals.specs.declared.Refusal.{Refusal}
use Rattle.rings.specs.Kinds.{Kind}
use Rattle.rows.specs.declared.Row.{Row}
use Rattle.rows.specs.Tables.{both, sum}

abbrev pub key_sum : ℕ → ℕ → ℕ
key_sum j k = (j + k) % 2 ^ 64

abbrev pub scaled : {V : Type 0} → Kind V → Row V → List (Row V) → Result (List (Row V)) Refusal
scaled K y [] = Ok []
scaled K y (x ∷ xs) = both K (key_sum x.key y.key) (K.value (K.ops.times (K.meaning x.coefficient) (K.meaning y.coefficient))) (scaled K y xs)

abbrev pub continued : {V : Type 0} → Result (List (Row V)) Refusal → (List (Row V) → Result (List (Row V)) Refusal) → Result (List (Row V)) Refusal
continued (Ok xs) f = f xs
continued (Err e) f = Err e

abbrev pub joined : {V : Type 0} → Kind V → List (Row V) → Row V → List (Row V) → Result (List (Row V)) Refusal
joined K xs y ys = continued (scaled K y ys) (sum K xs)
