-- Lists of calls.
--     answers_all K over s cs       what the calls cs answer, one after the other from the state s
--     output_all K over s cs out    the output after them
--     Ran K over s cs out t told new  the calls cs took the state s to t and the output out to new, and answered told
--     further u cs                  the use u, and then the calls cs
--     Onward K over vs may s cs t   the promise, and that it goes on: where the use u leaves s, the use u and then the calls cs leaves t
use Rattle.std.specs.Prelude.{◌≡◌, ℕ, Bool, List, [], ◌∷◌, ◌++◌}
use Rattle.rings.specs.Kinds.{Kind}
use Rattle.formats.specs.declared.variable.Variable.{Variable}
use Rattle.arithmetic.specs.Dividing.{Over}
use Rattle.sheets.specs.States.{State}
use Rattle.conduct.specs.Calls.{Call, Answer, answer, after, after_all}
use Rattle.conduct.specs.Uses.{Use, Allowed, Promise, left}
use Rattle.uses.specs.Performing.{output_after}

module _ {V : Type 0} (K : Kind V) (over : Over V) where
  abbrev pub answers_all : State V → List Call → List (Answer V)
  answers_all s [] = []
  answers_all s (c ∷ cs) = answer K over s c ∷ answers_all (after K over s c) cs

  abbrev pub output_all : State V → List Call → List ℕ → List ℕ
  output_all s [] out = out
  output_all s (c ∷ cs) out = output_all (after K over s c) cs (output_after K s c out)

  pub record Ran (s : State V) (cs : List Call) (out : List ℕ) (t : State V) (told : List (Answer V)) (new : List ℕ) : Type 0 where
    pub leaves : t ≡ after_all K over s cs
    pub answers : told ≡ answers_all s cs
    pub output : new ≡ output_all s cs out

abbrev pub further : Use → List Call → Use
further u cs = record { rows = u.rows; calls = u.calls ++ cs }

pub record Onward {V : Type 0} (K : Kind V) (over : Over V) (vs : List Variable) (may : Bool) (s : State V) (cs : List Call) (t : State V) : Type 0 where
  pub promise : Promise K over vs may
  pub allowed : (u : Use) → Allowed may u.calls → Allowed may (further u cs).calls
  pub onward : (u : Use) → s ≡ left K over vs u → t ≡ left K over vs (further u cs)
