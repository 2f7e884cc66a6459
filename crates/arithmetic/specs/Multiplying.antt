-- Products of tables, for areas of c rows.
--     inside vs y xs            whether the exponents of the row y, added to those of any row of xs, are within their fields
--     step K vs c acc xs y      the running table acc plus the rows of xs times the row y, or the refusal: an exponent beyond its field, a coefficient that does not fit, too many rows
--     multiplied K vs c pick acc ys     the running table after a step for each row y of ys, first row first, with the rows that pick gives for y
--     product K vs c xs ys      the product of the tables xs and ys: the steps from no rows, each with all of xs
use Rattle.std.specs.Prelude.{ℕ, Bool, true, cond, ◌&&◌, List, [], ◌∷◌, Ok, Err, Result}
use Rattle.refusals.specs.declared.Refusal.{Refusal}
use Rattle.refusals.specs.declared.Refusal.TheVariants.{Exponent}
use Rattle.rings.specs.Kinds.{Kind}
use Rattle.formats.specs.Exponents.{added}
use Rattle.formats.specs.Keys.{unpack, within}
use Rattle.formats.specs.declared.variable.Variable.{Variable}
use Rattle.rows.specs.Products.{joined, continued}
use Rattle.rows.specs.Tables.{limited}
use Rattle.rows.specs.declared.Row.{Row}

abbrev pub inside : {V : Type 0} → List Variable → Row V → List (Row V) → Bool
inside vs y [] = true
inside vs y (x ∷ xs) = within vs (added (unpack vs x.key) (unpack vs y.key)) && inside vs y xs

abbrev pub step : {V : Type 0} → Kind V → List Variable → ℕ → List (Row V) → List (Row V) → Row V → Result (List (Row V)) Refusal
step K vs c acc xs y = cond (inside vs y xs) (limited c (joined K acc y xs)) (Err Exponent)

abbrev pub multiplied : {V : Type 0} → Kind V → List Variable → ℕ → (Row V → List (Row V)) → List (Row V) → List (Row V) → Result (List (Row V)) Refusal
multiplied K vs c pick acc [] = Ok acc
multiplied K vs c pick acc (y ∷ ys) = continued (step K vs c acc (pick y) y) (λ more. multiplied K vs c pick more ys)

abbrev pub product : {V : Type 0} → Kind V → List Variable → ℕ → List (Row V) → List (Row V) → Result (List (Row V)) Refusal
product K vs c xs ys = multiplied K vs c (λ _. xs) [] ys
