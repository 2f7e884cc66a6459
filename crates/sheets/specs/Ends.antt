-- The end of a call, whose result was made in a working area.
--     made_in a w                 the area a, where the pass that answered w left its table; the refusal where it was refused
--     ended made                  what the call answers
--     finished s c r made         the state s with the table of that area in the place r, where the areas hold c; s itself after a refusal
--     brought c r w               what areas hold that held c, after the table of the first working area went to the place r, unless its pass was refused as w says, and that area was emptied
--     made_of c made              the table of that area, where the areas hold c, or the refusal
--     Making n s t a made         steps took the worktop s to t and made the rows of a, or its refusal: the areas below n hold what they held. The places are those below 8
use Rattle.std.specs.Prelude.{◌≡◌, ℕ, ◌<◌, List, [], Ok, Err, Result}
use Rattle.refusals.specs.declared.Refusal.{Refusal}
use Rattle.rings.specs.declared.ring.Ring.{Ghosts}
use Rattle.rows.specs.declared.Row.{Row}
use Rattle.areas.specs.Areas.{Contents, contents, storing}
use Rattle.sheets.specs.States.{State, stored}
use Rattle.sheets.specs.declared.worktop.Worktop.{Worktop}

abbrev pub made_in : ℕ → Result (Unit {0}) Refusal → Result ℕ Refusal
made_in a (Ok x) = Ok a
made_in a (Err e) = Err e

abbrev pub ended : Result ℕ Refusal → Result (Unit {0}) Refusal
ended (Ok a) = Ok tt
ended (Err e) = Err e

abbrev pub finished : {V : Type 0} → State V → Contents V → ℕ → Result ℕ Refusal → State V
finished s c r (Ok a) = stored s r (c.tables a)
finished s c r (Err e) = s

abbrev pub brought : {V : Type 0} → Contents V → ℕ → Result (Unit {0}) Refusal → Contents V
brought c r (Ok x) = storing (storing c r (c.tables 8)) 8 []
brought c r (Err e) = storing c 8 []

abbrev pub made_of : {V : Type 0} → Contents V → Result ℕ Refusal → Result (List (Row V)) Refusal
made_of c (Ok a) = Ok (c.tables a)
made_of c (Err e) = Err e

pub record Making {V : Type 0} {G : Ghosts V} (n : ℕ) (s t : Worktop V G) (a : Result (List (Row V)) Refusal) (made : Result ℕ Refusal) : Type 0 where
  pub result : made_of (contents t.areas) made ≡ a
  pub others : (o : ℕ) → o < n → (contents t.areas).tables o ≡ (contents s.areas).tables o
  pub lent : (contents t.areas).lent ≡ (contents s.areas).lent
  pub room : (contents t.areas).room ≡ (contents s.areas).room
  pub format : t.format ≡ s.format
