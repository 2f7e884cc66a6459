use Rattle.std.proofs.Common.{◌==◌, ◌&&◌, ◌≡◌, Decides}
use Rattle.std.proofs.lemmas.Bool.Decides.{Decides-eqb, Decides-and, Decides-like}
use Rattle.std.proofs.lemmas.Slice.Eq.{slice_eq-Decides}
use Rattle.formats.specs.declared.variable.Variable.{Variable}
use Rattle.formats.proofs.format.Format.alike.Goals as goal

one : (v w : Variable) → Decides (v.letter == w.letter && v.width == w.width) (v ≡ w)
one v w = Decides-like _ (λ p i. record { letter = p.0 i; width = p.1 i }) (λ e. (λ i. (e i).letter, λ i. (e i).width)) (Decides-and _ _ (Decides-eqb v.letter w.letter) (Decides-eqb v.width w.width))

pub returns : goal.returns
returns c = rw (← c.variables.ensures.list, ← c.variables-2.ensures.list) (slice_eq-Decides one _ _ _ c.eq.ensures)
