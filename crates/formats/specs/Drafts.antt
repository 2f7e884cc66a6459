-- What drafts and formats hold.
--     entered v       the variables in the buffer v, in order
--     drafted d       the variables of the draft d, in order
--     variables f     the variables of the format f, in order
--     Sound vs        vs are the variables of some format: one to eight, lawful, and at most 64 bits together
use Rattle.std.specs.Prelude.{◌≡◌, ◌<◌, ◌≤◌, true, List, length, take}
use Rattle.formats.specs.declared.draft.Draft.{Draft}
use Rattle.formats.specs.declared.format.Format.{Format}
use Rattle.formats.specs.declared.variable.Variable.{Variable}
use Rattle.formats.specs.declared.variables.Variables.{Variables}
use Rattle.formats.specs.Variables.{lawful, total}

abbrev pub entered : Variables → List Variable
entered v = take v.count v.entries

abbrev pub drafted : Draft → List Variable
drafted d = entered d.variables

abbrev pub variables : Format → List Variable
variables f = entered f.variables

pub record Sound (vs : List Variable) : Type 0 where
  pub some : 0 < length vs
  pub few : length vs ≤ 8
  pub ok : lawful vs ≡ true
  pub narrow : total vs ≤ 64
