-- The running table of a desk, to which terms are added one by one. It is in a working area.
--     running s             the rows of it
--     follows k x xs        whether the key k is below that of the last row of x ∷ xs
--     below_last k xs       whether k is below the key of the last row of xs, or xs is empty
--     entering K c xs x     the table xs with the row x added: after its last row, if the key of x is below that, else by the sum; a refusal if a coefficient does not fit or the rows are more than c
--     storing_running s p   its rows, to be left in the place p, or the refusal where there is no such place
use Rattle.std.specs.Prelude.{ℕ, Bool, true, cond, List, [], ◌∷◌, ◌++◌, Ok, Err, Result, nat_lt}
use Rattle.refusals.specs.declared.Refusal.{Refusal}
use Rattle.refusals.specs.declared.Refusal.TheVariants.{Place}
use Rattle.rings.specs.Kinds.{Kind}
use Rattle.rings.specs.declared.ring.Ring.{Ghosts}
use Rattle.rows.specs.Tables.{sum, limited}
use Rattle.rows.specs.declared.Row.{Row}
use Rattle.areas.specs.Areas.{contents}
use Rattle.sheets.specs.States.{placed}
use Rattle.sheets.specs.declared.desk.Desk.{Desk}

abbrev pub running : {V : Type 0} {G : Ghosts V} → Desk V G → List (Row V)
running s = (contents s.top.areas).tables 9

abbrev pub follows : {V : Type 0} → ℕ → Row V → List (Row V) → Bool
follows k x [] = nat_lt k x.key
follows k x (y ∷ ys) = follows k y ys

abbrev pub below_last : {V : Type 0} → ℕ → List (Row V) → Bool
below_last k [] = true
below_last k (x ∷ xs) = follows k x xs

abbrev pub entering : {V : Type 0} → Kind V → ℕ → List (Row V) → Row V → Result (List (Row V)) Refusal
entering K c xs x = cond (below_last x.key xs) (limited c (Ok (xs ++ x ∷ []))) (limited c (sum K xs (x ∷ [])))

abbrev pub storing_running : {V : Type 0} {G : Ghosts V} → Desk V G → ℕ → Result (List (Row V)) Refusal
storing_running s p = cond (placed p) (Ok (running s)) (Err Place)
