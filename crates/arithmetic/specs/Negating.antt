-- The negative of a table, and differences.
--     or_zero K r           the value r; that of zero where r is a refusal
--     value_of K m          the value of the member m; that of zero where m does not fit
--     minus_one K           the row with key 0 and coefficient minus one
--     negated K xs          each row of xs times minus one
--     subtracted K xs ys    xs plus each row of ys times minus one
use Rattle.std.specs.Prelude.{List, Ok, Err, Result}
use Rattle.refusals.specs.declared.Refusal.{Refusal}
use Rattle.rings.specs.Kinds.{Kind}
use Rattle.rows.specs.Products.{scaled, joined}
use Rattle.rows.specs.Tables.{row}
use Rattle.rows.specs.declared.Row.{Row}

abbrev pub or_zero : {V : Type 0} → Kind V → Result V Refusal → V
or_zero K (Ok v) = v
or_zero K (Err e) = K.zero_value

abbrev pub value_of : {V : Type 0} (K : Kind V) → K.ops.Member → V
value_of K m = or_zero K (K.value m)

abbrev pub minus_one : {V : Type 0} → Kind V → Row V
minus_one K = row 0 (value_of K (K.ops.negative K.ops.one))

abbrev pub negated : {V : Type 0} → Kind V → List (Row V) → Result (List (Row V)) Refusal
negated K xs = scaled K (minus_one K) xs

abbrev pub subtracted : {V : Type 0} → Kind V → List (Row V) → List (Row V) → Result (List (Row V)) Refusal
subtracted K xs ys = joined K xs (minus_one K) ys
