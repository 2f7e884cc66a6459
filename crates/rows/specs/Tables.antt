-- Tables of rows as lists, and their sum.
--     blank K            the row with key 0 and coefficient zero
--     row k v            the row with key k and coefficient v
--     consed x r         the row x before the rows of r, unless r is a refusal
--     both K k v r       the row of key k with the sum v of two coefficients before r: none if v is zero, a refusal if v is one
--     sum K xs ys        the sum of two tables: rows by falling keys, those of equal keys added, a refusal if a coefficient does not fit
--     limited c r        the rows of r if they are at most c, else the refusal for too many
--     counted r          how many rows r has, or its refusal
use Rattle.std.specs.Prelude.{ℕ, cond, List, [], ◌∷◌, length, Ok, Err, Result, nat_lt}
use Rattle.refusals.specs.declared.Refusal.{Refusal}
use Rattle.refusals.specs.declared.Refusal.TheVariants.{Rows}
use Rattle.rings.specs.Kinds.{Kind}
use Rattle.rows.specs.declared.Row.{Row}

abbrev pub row : {V : Type 0} → ℕ → V → Row V
row k v = record { key = k; coefficient = v }

abbrev pub blank : {V : Type 0} → Kind V → Row V
blank K = row 0 K.zero_value

abbrev pub consed : {V : Type 0} → Row V → Result (List (Row V)) Refusal → Result (List (Row V)) Refusal
consed x (Ok xs) = Ok (x ∷ xs)
consed x (Err e) = Err e

abbrev pub both : {V : Type 0} → Kind V → ℕ → Result V Refusal → Result (List (Row V)) Refusal → Result (List (Row V)) Refusal
both K k (Ok v) r = cond (K.ops.same (K.meaning v) K.ops.zero) r (consed (row k v) r)
both K k (Err e) r = Err e

-- the sum of x ∷ xs and ys, where rest is the sum of xs and any table
abbrev pub into : {V : Type 0} → Kind V → Row V → List (Row V) → (List (Row V) → Result (List (Row V)) Refusal) → List (Row V) → Result (List (Row V)) Refusal
into K x xs rest [] = Ok (x ∷ xs)
into K x xs rest (y ∷ ys) =
    cond (nat_lt y.key x.key) (consed x (rest (y ∷ ys)))
    (cond (nat_lt x.key y.key) (consed y (into K x xs rest ys))
    (both K x.key (K.value (K.ops.plus (K.meaning x.coefficient) (K.meaning y.coefficient))) (rest ys)))

abbrev pub sum : {V : Type 0} → Kind V → List (Row V) → List (Row V) → Result (List (Row V)) Refusal
sum K [] ys = Ok ys
sum K (x ∷ xs) ys = into K x xs (sum K xs) ys

abbrev pub limited : {V : Type 0} → ℕ → Result (List (Row V)) Refusal → Result (List (Row V)) Refusal
limited c (Ok xs) = cond (nat_lt c (length xs)) (Err Rows) (Ok xs)
limited c (Err e) = Err e

abbrev pub counted : {V : Type 0} → Result (List (Row V)) Refusal → Result ℕ Refusal
counted (Ok xs) = Ok (length xs)
counted (Err e) = Err e
