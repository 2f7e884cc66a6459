-- A desk, by its worktop.
--     state d             the state of a sheet that has the desk d
--     rows_lent d         how many rows are lent to the desk d
--     Blank d             the working areas of the desk d are empty; as areas are tidy, every lent row that is no row of a place is blank
use Rattle.std.specs.Prelude.{ℕ}
use Rattle.rings.specs.declared.ring.Ring.{Ghosts}
use Rattle.areas.specs.Areas.{contents}
use Rattle.sheets.specs.States.{State}
use Rattle.sheets.specs.Worktops as worktops
use Rattle.sheets.specs.declared.desk.Desk.{Desk}

abbrev pub state : {V : Type 0} {G : Ghosts V} → Desk V G → State V
state d = worktops.state d.top

abbrev pub rows_lent : {V : Type 0} {G : Ghosts V} → Desk V G → ℕ
rows_lent d = (contents d.top.areas).lent

abbrev pub Blank : {V : Type 0} {G : Ghosts V} → Desk V G → Type 0
Blank d = worktops.Blank d.top
