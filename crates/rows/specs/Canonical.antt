-- Tables as polynomials, by their keys.
--     coefficient K xs k    the member that the table xs gives to the key k: the sum of the coefficients of the rows with that key
--     Under k xs            every key of xs is below k
--     Canonical K xs        the keys of xs strictly fall, and every coefficient is a value that is not zero
--     Adds K xs ys zs       the table zs is canonical, and gives to each key the sum of what xs and ys give to it
--     Overflows K xs ys     at some key, the sum of what xs and ys give to it does not fit
use Rattle.std.specs.Prelude.{◌≡◌, ℕ, ◌<◌, cond, List, [], ◌∷◌, ◌==◌, ◌≢◌}
use Rattle.rings.specs.Kinds.{Kind, Fits, IsValue}
use Rattle.rows.specs.declared.Row.{Row}

abbrev pub coefficient : {V : Type 0} (K : Kind V) → List (Row V) → ℕ → K.ops.Member
coefficient K [] k = K.ops.zero
coefficient K (x ∷ xs) k = cond (x.key == k) (K.ops.plus (K.meaning x.coefficient) (coefficient K xs k)) (coefficient K xs k)

abbrev pub Under : {V : Type 0} → ℕ → List (Row V) → Type 0
Under k [] = Unit {0}
Under k (x ∷ xs) = (x.key < k) × Under k xs

abbrev pub Canonical : {V : Type 0} → Kind V → List (Row V) → Type 0
Canonical K [] = Unit {0}
Canonical K (x ∷ xs) = IsValue K x.coefficient × (K.meaning x.coefficient ≢ K.ops.zero) × Under x.key xs × Canonical K xs

pub record Adds {V : Type 0} (K : Kind V) (xs ys zs : List (Row V)) : Type 0 where
  pub canonical : Canonical K zs
  pub adds : (k : ℕ) → coefficient K zs k ≡ K.ops.plus (coefficient K xs k) (coefficient K ys k)

abbrev pub Overflows : {V : Type 0} → Kind V → List (Row V) → List (Row V) → Type 0
Overflows K xs ys = (k : ℕ) × (Fits K (K.ops.plus (coefficient K xs k) (coefficient K ys k)) → ⊥)
