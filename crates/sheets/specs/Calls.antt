-- What each call is to leave in its place, or why it is refused, for every state and every argument. Place numbers come first, then the variable, then k, then the call's own steps.
--     limit s a             the rows of a, or the refusal where they are more than a place has room for
--     both_placed, all_placed     whether two numbers, or three, are those of places
--     constant_rows, constant     the rows of the constant that figures made, and the call
--     variable_rows, variable     the rows of the variable with that key, and the call
--     in_format s v a, counting s k a     a, where v is a variable of the format, or k counts some of its variables
--     copied, negated, added, subtracted, multiplied, divided, differentiated, substituted, truncated, multiplied_truncated
--                           the calls on places, by the definitions on tables; over answers the quotient of two coefficients
--     same_rows K xs ys     whether two tables have the same rows
--     row_leading xs          the first row of a table, if there is one
--     equal_answer, leading_answer      the two questions
use Rattle.std.specs.Prelude.{ℕ, Bool, true, false, cond, ◌&&◌, List, [], ◌∷◌, length, ℤ, Some, None, Ok, Err, Option, Result, ◌==◌, nat_le, nat_lt}
use Rattle.refusals.specs.declared.Refusal.{Refusal}
use Rattle.refusals.specs.declared.Refusal.TheVariants.{Place, Variable as NotInFormat, Prefix}
use Rattle.rings.specs.Kinds.{Kind}
use Rattle.formats.specs.Keys.{unit}
use Rattle.rows.specs.Tables.{row, sum, limited}
use Rattle.rows.specs.declared.Row.{Row}
use Rattle.arithmetic.specs.Negating as negating
use Rattle.arithmetic.specs.Multiplying.{product}
use Rattle.arithmetic.specs.Dividing.{Over, quotient}
use Rattle.arithmetic.specs.Truncating as truncating
use Rattle.arithmetic.specs.Deriving.{derived}
use Rattle.arithmetic.specs.Substituting as substituting
use Rattle.sheets.specs.States.{State, placed}

abbrev pub limit : {V : Type 0} → State V → Result (List (Row V)) Refusal → Result (List (Row V)) Refusal
limit s a = limited s.room a

abbrev pub both_placed : ℕ → ℕ → Bool
both_placed r p = placed r && placed p

abbrev pub all_placed : ℕ → ℕ → ℕ → Bool
all_placed r p q = placed r && (placed p && placed q)

abbrev pub constant_rows : {V : Type 0} → Kind V → State V → Result V Refusal → Result (List (Row V)) Refusal
constant_rows K s (Ok v) = cond (K.ops.same (K.meaning v) K.ops.zero) (Ok []) (limit s (Ok (row 0 v ∷ [])))
constant_rows K s (Err e) = Err e

abbrev pub constant : {V : Type 0} → Kind V → State V → ℕ → ℤ → ℤ → Result (List (Row V)) Refusal
constant K s r a b = cond (placed r) (constant_rows K s (K.make a b)) (Err Place)

abbrev pub variable_rows : {V : Type 0} → Kind V → State V → Result ℕ Refusal → Result (List (Row V)) Refusal
variable_rows K s (Ok k) = limit s (Ok (row k K.one_value ∷ []))
variable_rows K s (Err e) = Err e

abbrev pub variable : {V : Type 0} → Kind V → State V → ℕ → ℕ → Result (List (Row V)) Refusal
variable K s r v = cond (placed r) (variable_rows K s (unit s.vars v)) (Err Place)

abbrev pub copied : {V : Type 0} → State V → ℕ → ℕ → Result (List (Row V)) Refusal
copied s r p = cond (both_placed r p) (Ok (s.places p)) (Err Place)

abbrev pub negated : {V : Type 0} → Kind V → State V → ℕ → ℕ → Result (List (Row V)) Refusal
negated K s r p = cond (both_placed r p) (negating.negated K (s.places p)) (Err Place)

abbrev pub added : {V : Type 0} → Kind V → State V → ℕ → ℕ → ℕ → Result (List (Row V)) Refusal
added K s r p q = cond (all_placed r p q) (limit s (sum K (s.places p) (s.places q))) (Err Place)

abbrev pub subtracted : {V : Type 0} → Kind V → State V → ℕ → ℕ → ℕ → Result (List (Row V)) Refusal
subtracted K s r p q = cond (all_placed r p q) (limit s (negating.subtracted K (s.places p) (s.places q))) (Err Place)

abbrev pub multiplied : {V : Type 0} → Kind V → State V → ℕ → ℕ → ℕ → Result (List (Row V)) Refusal
multiplied K s r p q = cond (all_placed r p q) (product K s.vars s.room (s.places p) (s.places q)) (Err Place)

abbrev pub divided : {V : Type 0} → Kind V → Over V → State V → ℕ → ℕ → ℕ → Result (List (Row V)) Refusal
divided K over s r p q = cond (all_placed r p q) (quotient K over s.vars s.room (s.places p) (s.places q)) (Err Place)

abbrev in_format : {V : Type 0} → State V → ℕ → Result (List (Row V)) Refusal → Result (List (Row V)) Refusal
in_format s v a = cond (nat_lt v (length s.vars)) a (Err NotInFormat)

abbrev pub differentiated : {V : Type 0} → Kind V → State V → ℕ → ℕ → ℕ → Result (List (Row V)) Refusal
differentiated K s r p v = cond (both_placed r p) (in_format s v (derived K s.vars v (s.places p))) (Err Place)

abbrev pub substituted : {V : Type 0} → Kind V → State V → ℕ → ℕ → ℕ → ℕ → Result (List (Row V)) Refusal
substituted K s r p q v = cond (all_placed r p q) (in_format s v (substituting.substituted K s.vars s.room v (s.places q) [] (s.places p))) (Err Place)

abbrev counting : {V : Type 0} → State V → ℕ → Result (List (Row V)) Refusal → Result (List (Row V)) Refusal
counting s k a = cond (nat_le k (length s.vars)) a (Err Prefix)

abbrev pub truncated : {V : Type 0} → State V → ℕ → ℕ → ℕ → ℕ → Result (List (Row V)) Refusal
truncated s r p k n = cond (both_placed r p) (counting s k (Ok (truncating.truncated s.vars k n (s.places p)))) (Err Place)

abbrev pub multiplied_truncated : {V : Type 0} → Kind V → State V → ℕ → ℕ → ℕ → ℕ → ℕ → Result (List (Row V)) Refusal
multiplied_truncated K s r p q k n = cond (all_placed r p q) (counting s k (truncating.product_truncated K s.vars s.room k n (s.places p) (s.places q))) (Err Place)

abbrev pub same_rows : {V : Type 0} → Kind V → List (Row V) → List (Row V) → Bool
same_rows K [] [] = true
same_rows K [] (y ∷ ys) = false
same_rows K (x ∷ xs) [] = false
same_rows K (x ∷ xs) (y ∷ ys) = (x.key == y.key && K.ops.same (K.meaning x.coefficient) (K.meaning y.coefficient)) && same_rows K xs ys

abbrev pub equal_answer : {V : Type 0} → Kind V → State V → ℕ → ℕ → Result Bool Refusal
equal_answer K s p q = cond (both_placed p q) (Ok (same_rows K (s.places p) (s.places q))) (Err Place)

abbrev pub row_leading : {V : Type 0} → List (Row V) → Option (Row V)
row_leading [] = None
row_leading (x ∷ xs) = Some x

abbrev pub leading_answer : {V : Type 0} → State V → ℕ → Result (Option (Row V)) Refusal
leading_answer s p = cond (placed p) (Ok (row_leading (s.places p))) (Err Place)
