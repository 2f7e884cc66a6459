-- What calls make of each row of a place by itself.
--     row_low vs k n x          the row x, if its first k exponents add to at most n; else none
--     row_derived K vs v x      the row x differentiated by the variable v; none if v is not in it or the multiple is zero, a refusal if the multiple does not fit
--     before o r                the row of o, if there is one, before the rows of r, or the refusal of o
--     changed f xs              what f makes of the rows of xs, in their order
--     Gives post f              what calls give that post describes is what f gives
--     Changes post xs r         r is what such an f makes of the rows of xs
use Rattle.std.specs.Prelude.{◌≡◌, ℕ, ◌-◌, cond, List, [], ◌∷◌, Some, None, Ok, Err, Option, Result, ◌==◌}
use Rattle.refusals.specs.declared.Refusal.{Refusal}
use Rattle.rings.specs.Members.{copies}
use Rattle.rings.specs.Kinds.{Kind}
use Rattle.formats.specs.Keys.{unpack}
use Rattle.formats.specs.declared.variable.Variable.{Variable}
use Rattle.rows.specs.declared.Row.{Row}
use Rattle.areas.specs.Merging.{found, prepended}
use Rattle.arithmetic.specs.Deriving.{power_of, with_power}
use Rattle.arithmetic.specs.Truncating.{low}

abbrev pub row_low : {V : Type 0} → List Variable → ℕ → ℕ → Row V → Option (Row V)
row_low vs k n x = cond (low k n (unpack vs x.key)) (Some x) None

abbrev pub row_derived : {V : Type 0} → Kind V → List Variable → ℕ → Row V → Result (Option (Row V)) Refusal
row_derived K vs v x =
    cond (power_of vs v x == 0) (Ok None)
    (found K (with_power vs v (power_of vs v x - 1) x) (K.value (copies K.ops (power_of vs v x) (K.meaning x.coefficient))))

abbrev pub before : {V : Type 0} → Result (Option (Row V)) Refusal → Result (List (Row V)) Refusal → Result (List (Row V)) Refusal
before (Ok o) r = prepended o r
before (Err e) r = Err e

abbrev pub changed : {V : Type 0} → (Row V → Result (Option (Row V)) Refusal) → List (Row V) → Result (List (Row V)) Refusal
changed f [] = Ok []
changed f (x ∷ xs) = before (f x) (changed f xs)

abbrev pub Gives : {V : Type 0} → (Row V → Result (Option (Row V)) Refusal → Type 0) → (Row V → Result (Option (Row V)) Refusal) → Type 0
Gives {V} post f = (x : Row V) (r : Result (Option (Row V)) Refusal) → post x r → r ≡ f x

abbrev pub Changes : {V : Type 0} → (Row V → Result (Option (Row V)) Refusal → Type 0) → List (Row V) → Result (List (Row V)) Refusal → Type 0
Changes {V} post xs r = (f : Row V → Result (Option (Row V)) Refusal) → Gives post f → r ≡ changed f xs
