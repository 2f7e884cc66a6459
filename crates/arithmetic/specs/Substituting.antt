-- A table for a variable of another, for areas of c rows.
--     raised K vs c qs ts i        the table ts times the table qs, i times over
--     term_raised K vs c v qs x    the row x without the variable v, times as many qs as its exponent of v says
--     substituted K vs c v qs acc xs     the running table acc plus those of the rows of xs, first row first
use Rattle.std.specs.Prelude.{ℕ, zero, suc, List, [], ◌∷◌, Ok, Result}
use Rattle.refusals.specs.declared.Refusal.{Refusal}
use Rattle.rings.specs.Kinds.{Kind}
use Rattle.formats.specs.declared.variable.Variable.{Variable}
use Rattle.rows.specs.Products.{continued}
use Rattle.rows.specs.Tables.{row, sum, limited}
use Rattle.rows.specs.declared.Row.{Row}
use Rattle.arithmetic.specs.Deriving.{power_of, with_power}
use Rattle.arithmetic.specs.Multiplying.{product}

abbrev pub raised : {V : Type 0} → Kind V → List Variable → ℕ → List (Row V) → List (Row V) → ℕ → Result (List (Row V)) Refusal
raised K vs c qs ts zero = Ok ts
raised K vs c qs ts (suc i) = continued (raised K vs c qs ts i) (λ us. product K vs c us qs)

abbrev pub term_raised : {V : Type 0} → Kind V → List Variable → ℕ → ℕ → List (Row V) → Row V → Result (List (Row V)) Refusal
term_raised K vs c v qs x = raised K vs c qs (row (with_power vs v 0 x) x.coefficient ∷ []) (power_of vs v x)

abbrev pub substituted : {V : Type 0} → Kind V → List Variable → ℕ → ℕ → List (Row V) → List (Row V) → List (Row V) → Result (List (Row V)) Refusal
substituted K vs c v qs acc [] = Ok acc
substituted K vs c v qs acc (x ∷ xs) =
    continued (term_raised K vs c v qs x)
    (λ ts. continued (limited c (sum K acc ts)) (λ more. substituted K vs c v qs more xs))
