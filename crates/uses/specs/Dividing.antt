-- Divisions.
--     rows_of K over may s r p q   the rows that the division of p by q is to leave in r in the state s, or why it is refused, where over divides coefficients and calls may divide or not
--     from_none                    anything, where there is nothing to begin with
use Rattle.std.specs.Prelude.{ℕ, Bool, cond, List, Err, Result}
use Rattle.refusals.specs.declared.Refusal.{Refusal}
use Rattle.refusals.specs.declared.Refusal.TheVariants.{Operation}
use Rattle.rings.specs.Kinds.{Kind}
use Rattle.rows.specs.declared.Row.{Row}
use Rattle.arithmetic.specs.Dividing.{Over}
use Rattle.sheets.specs.Calls.{divided}
use Rattle.sheets.specs.States.{State}
use Rattle.uses.specs.declared.division.NoDivision.{NoDivision}

abbrev pub rows_of : {V : Type 0} → Kind V → Over V → Bool → State V → ℕ → ℕ → ℕ → Result (List (Row V)) Refusal
rows_of K over may s r p q = cond may (divided K over s r p q) (Err Operation)

abbrev pub from_none : {X : Type 0} → NoDivision → X
from_none = elim [ ]
