-- The terms that numbers make: a coefficient's figures, then one exponent for each variable.
--     Partial V          the term under way: its figures so far, or its coefficient and the exponents so far; with its first byte
--     none               no number yet
--     Got V              what a number leaves: a term under way, a whole term with its first byte, or the deck's end
--     coefficient K b r  the coefficient r that figures made, whose first byte is b: refused there; zero, it ends the deck
--     width_after vs i   the width of the variable that comes after i others
--     gathered vs v b es the exponents es are all there and make a whole term, or more are to come
--     power vs v b es at z     the exponents es with the number z for the next variable, or the refusal at its first byte at
--     taken K vs t n     the term t after the number n
use Rattle.std.specs.Prelude.{ℕ, ◌^◌, cond, List, [], ◌∷◌, ◌++◌, length, drop, ℤ, pos, negsuc, Ok, Err, Result, ◌==◌, nat_lt}
use Rattle.refusals.specs.declared.Refusal.{Refusal}
use Rattle.refusals.specs.declared.Refusal.TheVariants.{Exponent}
use Rattle.rings.specs.Kinds.{Kind}
use Rattle.formats.specs.Keys.{pack}
use Rattle.formats.specs.declared.variable.Variable.{Variable}
use Rattle.rows.specs.Tables.{row}
use Rattle.rows.specs.declared.Row.{Row}
use Rattle.texts.specs.Numbers.{Fault, Number}

pub data Partial (V : Type 0) : Type 0 where
  none : Partial V
  figure : ℤ → ℕ → Partial V
  powers : V → ℕ → List ℕ → Partial V

pub data Got (V : Type 0) : Type 0 where
  more : Partial V → Got V
  whole : Row V → ℕ → Got V
  ends : Got V

abbrev refused : {V : Type 0} → Refusal → ℕ → Result (Got V) Fault
refused e b = Err (record { refusal = e; byte = b })

abbrev pub coefficient : {V : Type 0} → Kind V → ℕ → Result V Refusal → Result (Got V) Fault
coefficient K b (Err e) = refused e b
coefficient K b (Ok v) = cond (K.ops.same (K.meaning v) K.ops.zero) (Ok ends) (Ok (more (powers v b [])))

abbrev pub width_after : List Variable → ℕ → ℕ
width_after vs i = at (drop i vs)
  where
    at : List Variable → ℕ
    at [] = 0
    at (v ∷ ws) = v.width

abbrev pub gathered : {V : Type 0} → List Variable → V → ℕ → List ℕ → Got V
gathered vs v b es = cond (nat_lt (length es) (length vs)) (more (powers v b es)) (whole (row (pack vs es) v) b)

abbrev pub power : {V : Type 0} → List Variable → V → ℕ → List ℕ → ℕ → ℤ → Result (Got V) Fault
power vs v b es at (pos e) = cond (nat_lt e (2 ^ width_after vs (length es))) (Ok (gathered vs v b (es ++ e ∷ []))) (refused Exponent at)
power vs v b es at (negsuc e) = refused Exponent at

abbrev pub taken : {V : Type 0} → Kind V → List Variable → Partial V → Number → Result (Got V) Fault
taken K vs none n = cond (K.count == 1) (coefficient K n.first (K.make n.value (pos 0))) (Ok (more (figure n.value n.first)))
taken K vs (figure a b) n = coefficient K b (K.make a n.value)
taken K vs (powers v b es) n = power vs v b es n.first n.value
