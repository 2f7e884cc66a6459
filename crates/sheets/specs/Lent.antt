-- The lent rows of a sheet, all of them, and what its calls leave there.
--     Lent V              the lent rows, the count of each place, and the format's variables
--     lent_on w, lent_of d     those of the worktop w, of the desk d
--     room s              the rows of one area of s
--     count s p           how many rows the place p has
--     place s p           the rows of the place p
--     opened K n vs       a sheet that was opened on n rows
--     stored K s p xs     s with the rows xs at the place p, and blank rows after them where it had more
--     cleared K c s n     s with n blank rows at the start of the first working area, where areas have c rows
--     settled K s p r     s with the rows of r brought by the working area to the place p, or no place changed by a refusal
--     kept K s p r        s with the rows of r at the place p, or unchanged by a refusal
--     add_answer K s r p q          the rows of the sum of the places p and q, or the refusal: a bad place, a coefficient that does not fit, too many rows
--     add_leaves K s r p q          what is left after it
--     constant_rows, variable_rows  the rows of a constant that figures made, of a variable with that key
--     constant_answer K s r a b     the rows of the constant with the figures a and b, or the refusal: a bad place, figures that make no value, no room
--     variable_answer K s r v       the row of the variable v, or the refusal: a bad place, no such variable, no room
use Rattle.std.specs.Prelude.{ℕ, ◌-◌, ◌*◌, min, cond, List, [], ◌∷◌, ◌++◌, map, length, replicate, ℤ, Ok, Err, Result, slice_index, slice_set}
use Rattle.std.specs.List.{range_with_len}
use Rattle.refusals.specs.declared.Refusal.{Refusal}
use Rattle.refusals.specs.declared.Refusal.TheVariants.{Place}
use Rattle.rings.specs.Kinds.{Kind}
use Rattle.rings.specs.declared.ring.Ring.{Ghosts}
use Rattle.formats.specs.Drafts.{variables}
use Rattle.formats.specs.Keys.{unit}
use Rattle.formats.specs.declared.variable.Variable.{Variable}
use Rattle.rows.specs.Lists.{part, put}
use Rattle.rows.specs.Tables.{blank, row, sum, limited}
use Rattle.rows.specs.declared.Row.{Row}
use Rattle.areas.specs.Shares.{capacity}
use Rattle.sheets.specs.States.{placed}
use Rattle.sheets.specs.Worktops.{state}
use Rattle.sheets.specs.Calls.{all_placed}
use Rattle.sheets.specs.declared.desk.Desk.{Desk}
use Rattle.sheets.specs.declared.worktop.Worktop.{Worktop}

pub record Lent (V : Type 0) : Type 0 where
  pub rows : List (Row V)
  pub counts : List ℕ
  pub vars : List Variable

abbrev pub lent_on : {V : Type 0} {G : Ghosts V} → Worktop V G → Lent V
lent_on w = record { rows = w.areas.rows.now; counts = map (λ p. length ((state w).places p)) (range_with_len 0 8); vars = variables w.format }

abbrev pub lent_of : {V : Type 0} {G : Ghosts V} → Desk V G → Lent V
lent_of d = lent_on d.top

abbrev pub room : {V : Type 0} → Lent V → ℕ
room s = capacity (length s.rows)

abbrev pub count : {V : Type 0} → Lent V → ℕ → ℕ
count s p = min (slice_index s.counts p) (room s)

abbrev pub place : {V : Type 0} → Lent V → ℕ → List (Row V)
place s p = part (p * room s) (count s p) s.rows

abbrev pub opened : {V : Type 0} → Kind V → ℕ → List Variable → Lent V
opened K n vs = record { rows = replicate n (blank K); counts = replicate 8 0; vars = vs }

abbrev pub stored : {V : Type 0} → Kind V → Lent V → ℕ → List (Row V) → Lent V
stored K s p xs = record {
  rows = put s.rows (p * room s) (xs ++ replicate (count s p - length xs) (blank K));
  counts = slice_set s.counts p (length xs);
  vars = s.vars;
}

abbrev pub cleared : {V : Type 0} → Kind V → ℕ → Lent V → ℕ → Lent V
cleared K c s n = record { rows = put s.rows (8 * c) (replicate n (blank K)); counts = s.counts; vars = s.vars }

abbrev pub settled : {V : Type 0} → Kind V → Lent V → ℕ → Result (List (Row V)) Refusal → Lent V
settled K s p (Ok xs) = cleared K (room s) (stored K s p xs) (length xs)
settled K s p (Err e) = cleared K (room s) s (room s)

abbrev pub kept : {V : Type 0} → Kind V → Lent V → ℕ → Result (List (Row V)) Refusal → Lent V
kept K s p (Ok xs) = stored K s p xs
kept K s p (Err e) = s

abbrev pub add_answer : {V : Type 0} → Kind V → Lent V → ℕ → ℕ → ℕ → Result (List (Row V)) Refusal
add_answer K s r p q = cond (all_placed r p q) (limited (room s) (sum K (place s p) (place s q))) (Err Place)

abbrev pub add_leaves : {V : Type 0} → Kind V → Lent V → ℕ → ℕ → ℕ → Lent V
add_leaves K s r p q = cond (all_placed r p q) (settled K s r (add_answer K s r p q)) s

abbrev pub constant_rows : {V : Type 0} → Kind V → ℕ → Result V Refusal → Result (List (Row V)) Refusal
constant_rows K c (Ok v) = cond (K.ops.same (K.meaning v) K.ops.zero) (Ok []) (limited c (Ok (row 0 v ∷ [])))
constant_rows K c (Err e) = Err e

abbrev pub constant_answer : {V : Type 0} → Kind V → Lent V → ℕ → ℤ → ℤ → Result (List (Row V)) Refusal
constant_answer K s r a b = cond (placed r) (constant_rows K (room s) (K.make a b)) (Err Place)

abbrev pub variable_rows : {V : Type 0} → Kind V → ℕ → Result ℕ Refusal → Result (List (Row V)) Refusal
variable_rows K c (Ok k) = limited c (Ok (row k K.one_value ∷ []))
variable_rows K c (Err e) = Err e

abbrev pub variable_answer : {V : Type 0} → Kind V → Lent V → ℕ → ℕ → Result (List (Row V)) Refusal
variable_answer K s r v = cond (placed r) (variable_rows K (room s) (unit s.vars v)) (Err Place)
