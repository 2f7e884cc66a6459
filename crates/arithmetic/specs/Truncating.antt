-- Truncated tables and products.
--     chosen t xs                  the rows of xs that the test t takes
--     low vs k n e                 whether the first k exponents of e add to at most n
--     truncated vs k n xs          the rows of xs whose first k exponents add to at most n
--     near vs k n xs y             the rows of xs whose first k exponents, added to those of y, make at most n together
--     product_truncated K vs c k n xs ys    the product of xs and ys in which all other pairs of rows are skipped
use Rattle.std.specs.Prelude.{ℕ, Bool, cond, List, [], ◌∷◌, take, Result, nat_le}
use Rattle.refusals.specs.declared.Refusal.{Refusal}
use Rattle.rings.specs.Kinds.{Kind}
use Rattle.formats.specs.Exponents.{added, degree}
use Rattle.formats.specs.Keys.{unpack}
use Rattle.formats.specs.declared.variable.Variable.{Variable}
use Rattle.rows.specs.declared.Row.{Row}
use Rattle.arithmetic.specs.Multiplying.{multiplied}

abbrev pub chosen : {X : Type 0} → (X → Bool) → List X → List X
chosen t [] = []
chosen t (x ∷ xs) = cond (t x) (x ∷ chosen t xs) (chosen t xs)

abbrev pub low : ℕ → ℕ → List ℕ → Bool
low k n e = nat_le (degree (take k e)) n

abbrev pub truncated : {V : Type 0} → List Variable → ℕ → ℕ → List (Row V) → List (Row V)
truncated vs k n xs = chosen (λ x. low k n (unpack vs x.key)) xs

abbrev pub near : {V : Type 0} → List Variable → ℕ → ℕ → List (Row V) → Row V → List (Row V)
near vs k n xs y = chosen (λ x. low k n (added (unpack vs x.key) (unpack vs y.key))) xs

abbrev pub product_truncated : {V : Type 0} → Kind V → List Variable → ℕ → ℕ → ℕ → List (Row V) → List (Row V) → Result (List (Row V)) Refusal
product_truncated K vs c k n xs ys = multiplied K vs c (near vs k n xs) [] ys
