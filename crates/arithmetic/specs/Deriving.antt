-- The derivative of a table.
--     power_of vs v x         the exponent of the variable v in the row x
--     with_power vs v i x     the key of the row x with i as the exponent of v
--     derived K vs v xs       each row of xs with v in it: the multiple of its coefficient by the exponent, which is lowered by one; multiples that are zero left out
use Rattle.std.specs.Prelude.{ℕ, ◌-◌, cond, List, [], ◌∷◌, Ok, Result, ◌==◌}
use Rattle.refusals.specs.declared.Refusal.{Refusal}
use Rattle.rings.specs.Kinds.{Kind}
use Rattle.rings.specs.Members.{copies}
use Rattle.formats.specs.Exponents.{exponent, placed}
use Rattle.formats.specs.Keys.{pack, unpack}
use Rattle.formats.specs.declared.variable.Variable.{Variable}
use Rattle.rows.specs.Tables.{both}
use Rattle.rows.specs.declared.Row.{Row}

abbrev pub power_of : {V : Type 0} → List Variable → ℕ → Row V → ℕ
power_of vs v x = exponent v (unpack vs x.key)

abbrev pub with_power : {V : Type 0} → List Variable → ℕ → ℕ → Row V → ℕ
with_power vs v i x = pack vs (placed v i (unpack vs x.key))

abbrev pub derived : {V : Type 0} → Kind V → List Variable → ℕ → List (Row V) → Result (List (Row V)) Refusal
derived K vs v [] = Ok []
derived K vs v (x ∷ xs) =
    cond (power_of vs v x == 0) (derived K vs v xs)
    (both K (with_power vs v (power_of vs v x - 1) x) (K.value (copies K.ops (power_of vs v x) (K.meaning x.coefficient))) (derived K vs v xs))
