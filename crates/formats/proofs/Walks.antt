-- The variables of a format, one by one. Assumes nothing.
use Rattle.std.proofs.Common.{◌≡◌, ℕ, ◌||◌, ◌==◌, List, [], ◌∷◌, get_or, refl, ap}
use Rattle.std.specs.List.{sum_by, list_any}
use Rattle.std.proofs.lemmas.List.Recursion.{is_sum_by}
use Rattle.formats.specs.Variables.{total, used, variable}
use Rattle.formats.specs.declared.variable.Variable.{Variable}

pub total_is_sum : (vs : List Variable) → total vs ≡ sum_by (λ v. v.width) vs
total_is_sum vs = is_sum_by total (λ v. v.width) refl (λ _ _. refl) vs

pub used_is_any : (x : ℕ) (vs : List Variable) → used x vs ≡ list_any (λ v. v.letter == x) vs
used_is_any x [] = refl
used_is_any x (v ∷ vs) = ap (λ t. v.letter == x || t) (used_is_any x vs)

-- the variable at i, as a loop reads it
abbrev pub at : List Variable → ℕ → Variable
at vs i = get_or vs i (variable 0 0)
