-- The canonical rows of a polynomial, in a format with the variables vs and over a kind K.
--     Every P xs         P holds of every element of xs
--     Some P xs          P holds of some element of xs
--     Falling xs         the keys of xs strictly fall
--     Term K vs p x      the row x is that of a term of p: the key of a list of exponents, each within its field, at which p is not zero, and the value of the member there
--     CanonicalRows K vs p xs     xs are the canonical rows of p: keys fall, each row is that of a term, and each term has its row
--     meant K vs xs      the polynomial that the rows xs mean: the sum of their terms
use Rattle.std.specs.Prelude.{◌≡◌, ℕ, true, ◌⊎◌, List, [], ◌∷◌, length, Ok, ◌≢◌}
use Rattle.rings.specs.Kinds.{Kind}
use Rattle.formats.specs.Keys.{pack, unpack, within}
use Rattle.formats.specs.declared.variable.Variable.{Variable}
use Rattle.rows.specs.Canonical.{Under}
use Rattle.rows.specs.declared.Row.{Row}
use Rattle.algebra.specs.Polynomials.{Poly, nought, term, sum}

abbrev pub Every : {X : Type 0} → (X → Type 0) → List X → Type 0
Every P [] = Unit {0}
Every P (x ∷ xs) = P x × Every P xs

abbrev pub Some : {X : Type 0} → (X → Type 0) → List X → Type 0
Some P [] = ⊥
Some P (x ∷ xs) = P x ⊎ Some P xs

abbrev pub Falling : {V : Type 0} → List (Row V) → Type 0
Falling [] = Unit {0}
Falling (x ∷ xs) = Under x.key xs × Falling xs

pub record Term {V : Type 0} (K : Kind V) (vs : List Variable) (p : Poly K.ops) (x : Row V) : Type 0 where
  pub list : List ℕ
  pub long : length list ≡ length vs
  pub inside : within vs list ≡ true
  pub there : p list ≡ K.ops.zero → ⊥
  pub key : x.key ≡ pack vs list
  pub value : K.value (p list) ≡ Ok x.coefficient

pub record CanonicalRows {V : Type 0} (K : Kind V) (vs : List Variable) (p : Poly K.ops) (xs : List (Row V)) : Type 0 where
  pub falling : Falling xs
  pub terms : Every (Term K vs p) xs
  pub complete : (e : List ℕ) → length e ≡ length vs → (p e ≢ K.ops.zero) → (within vs e ≡ true) × Some (λ x. x.key ≡ pack vs e) xs

abbrev pub meant : {V : Type 0} (K : Kind V) → List Variable → List (Row V) → Poly K.ops
meant K vs [] = nought K.ops
meant K vs (x ∷ xs) = sum K.ops (term K.ops (unpack vs x.key) (K.meaning x.coefficient)) (meant K vs xs)
