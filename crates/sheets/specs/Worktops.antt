-- A worktop: the areas that a call works on, and the format.
--     state w             the state of a sheet that has the worktop w
--     Blank w             the working areas of w are empty; as areas are tidy, every lent row that is no row of a place is blank
--     Free w              the first working area of w is empty
use Rattle.std.specs.Prelude.{◌≡◌, ℕ, ◌<◌, ◌≤◌, []}
use Rattle.rings.specs.declared.ring.Ring.{Ghosts}
use Rattle.formats.specs.Drafts.{variables}
use Rattle.areas.specs.Areas.{contents}
use Rattle.sheets.specs.States.{State, seen}
use Rattle.sheets.specs.declared.worktop.Worktop.{Worktop}

abbrev pub state : {V : Type 0} {G : Ghosts V} → Worktop V G → State V
state w = seen (contents w.areas) (variables w.format)

abbrev pub Blank : {V : Type 0} {G : Ghosts V} → Worktop V G → Type 0
Blank w = (a : ℕ) → 8 ≤ a → a < 12 → (contents w.areas).tables a ≡ []

abbrev pub Free : {V : Type 0} {G : Ghosts V} → Worktop V G → Type 0
Free w = (contents w.areas).tables 8 ≡ []
