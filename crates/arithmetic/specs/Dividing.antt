-- Exact division of tables by leading rows, for areas of c rows, where over answers the quotient of two coefficients.
--     Over V                       what dividing one coefficient by another answers
--     opposed K t                  the row t with the negative of its coefficient
--     with_coefficient k r         the row of key k with the coefficient r, or its refusal
--     leading over vs x y          the row whose product with y is x, or the refusal: no quotient where an exponent would be negative, or what dividing the coefficients refuses
--     divided K over vs c ds m qs rs   the quotient by the divisor ds, where qs are its rows so far, m more have room, and rs is the remainder: a step takes both leading rows, and subtracts their quotient times the divisor from the remainder
--     quotient K over vs c xs ds   the quotient of xs by ds
use Rattle.std.specs.Prelude.{ℕ, zero, suc, cond, List, [], ◌∷◌, ◌++◌, Ok, Err, Result}
use Rattle.refusals.specs.declared.Refusal.{Refusal}
use Rattle.refusals.specs.declared.Refusal.TheVariants.{Rows, ZeroDivisor, NoQuotient}
use Rattle.rings.specs.Kinds.{Kind}
use Rattle.formats.specs.Exponents.{covers, lowered}
use Rattle.formats.specs.Keys.{pack, unpack}
use Rattle.formats.specs.declared.variable.Variable.{Variable}
use Rattle.rows.specs.Products.{continued}
use Rattle.rows.specs.Tables.{row}
use Rattle.rows.specs.declared.Row.{Row}
use Rattle.arithmetic.specs.Multiplying.{step}
use Rattle.arithmetic.specs.Negating.{value_of}

abbrev pub Over : Type 0 → Type 0
Over V = V → V → Result V Refusal

abbrev pub opposed : {V : Type 0} → Kind V → Row V → Row V
opposed K t = row t.key (value_of K (K.ops.negative (K.meaning t.coefficient)))

abbrev pub with_coefficient : {V : Type 0} → ℕ → Result V Refusal → Result (Row V) Refusal
with_coefficient k (Ok v) = Ok (row k v)
with_coefficient k (Err e) = Err e

abbrev pub leading : {V : Type 0} → Over V → List Variable → Row V → Row V → Result (Row V) Refusal
leading over vs x y =
    cond (covers (unpack vs x.key) (unpack vs y.key))
    (with_coefficient (pack vs (lowered (unpack vs x.key) (unpack vs y.key))) (over x.coefficient y.coefficient))
    (Err NoQuotient)

-- what is done with the row of a step
abbrev pub then : {V : Type 0} → Result (Row V) Refusal → (Row V → Result (List (Row V)) Refusal) → Result (List (Row V)) Refusal
then (Ok t) f = f t
then (Err e) f = Err e

module _ {V : Type 0} (K : Kind V) (over : Over V) (vs : List Variable) (c : ℕ) (y : Row V) (ds : List (Row V)) where
  abbrev pub divided : ℕ → List (Row V) → List (Row V) → Result (List (Row V)) Refusal
  divided m qs [] = Ok qs
  divided zero qs (x ∷ rs) = then (leading over vs x y) (λ t. Err Rows)
  divided (suc m) qs (x ∷ rs) = then (leading over vs x y) (λ t. continued (step K vs c (x ∷ rs) (y ∷ ds) (opposed K t)) (λ rest. divided m (qs ++ t ∷ []) rest))

abbrev pub quotient : {V : Type 0} → Kind V → Over V → List Variable → ℕ → List (Row V) → List (Row V) → Result (List (Row V)) Refusal
quotient K over vs c xs [] = Err ZeroDivisor
quotient K over vs c xs (y ∷ ds) = divided K over vs c y ds c [] xs
