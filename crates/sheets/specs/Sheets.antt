-- A sheet, by its desk.
--     state s         the state of the sheet s
--     lent s          the lent rows of the sheet s, all of them
--     rows_lent s     how many rows are lent to the sheet s
use Rattle.std.specs.Prelude.{ℕ}
use Rattle.rings.specs.declared.ring.Ring.{Ghosts}
use Rattle.sheets.specs.States.{State}
use Rattle.sheets.specs.Desks as desks
use Rattle.sheets.specs.Lent.{Lent, lent_of}
use Rattle.sheets.specs.declared.sheet.Sheet.{Sheet}

abbrev pub state : {V : Type 0} {G : Ghosts V} → Sheet V G → State V
state s = desks.state s.desk

abbrev pub lent : {V : Type 0} {G : Ghosts V} → Sheet V G → Lent V
lent s = lent_of s.desk

abbrev pub rows_lent : {V : Type 0} {G : Ghosts V} → Sheet V G → ℕ
rows_lent s = desks.rows_lent s.desk
