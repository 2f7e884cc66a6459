-- A sheet as plain data.
--     State V             the room of a place, the table in each, and the format's variables
--     placed p            whether p is the number of a place
--     seen c vs           the state of a sheet whose areas hold c
--     opened n vs         the state of a sheet that was opened on n rows
--     stored s r xs       s with the table xs in the place r
--     kept s r a          s with the rows of a in the place r, or unchanged by a refusal
use Rattle.std.specs.Prelude.{ℕ, Bool, cond, List, [], Ok, Err, Result, ◌==◌, nat_lt}
use Rattle.refusals.specs.declared.Refusal.{Refusal}
use Rattle.formats.specs.declared.variable.Variable.{Variable}
use Rattle.rows.specs.declared.Row.{Row}
use Rattle.areas.specs.Shares.{capacity}
use Rattle.areas.specs.Areas.{Contents}

pub record State (V : Type 0) : Type 0 where
  pub room : ℕ
  pub places : ℕ → List (Row V)
  pub vars : List Variable

abbrev pub placed : ℕ → Bool
placed p = nat_lt p 8

abbrev pub seen : {V : Type 0} → Contents V → List Variable → State V
seen c vs = record { room = c.room; places = λ p. cond (placed p) (c.tables p) []; vars = vs }

abbrev pub opened : {V : Type 0} → ℕ → List Variable → State V
opened n vs = record { room = capacity n; places = λ _. []; vars = vs }

abbrev pub stored : {V : Type 0} → State V → ℕ → List (Row V) → State V
stored s r xs = record { room = s.room; places = λ p. cond (p == r) xs (s.places p); vars = s.vars }

abbrev pub kept : {V : Type 0} → State V → ℕ → Result (List (Row V)) Refusal → State V
kept s r (Ok xs) = stored s r xs
kept s r (Err e) = s
