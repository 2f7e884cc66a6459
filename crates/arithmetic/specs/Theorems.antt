-- What the arithmetic of tables means. Where tables are the canonical rows of polynomials in the variables vs of a format, over a kind K that keeps the laws, in areas of c rows:
--     Gives K vs p Bad r     r is the canonical rows of p, or a refusal of which Bad holds
--     TableArithmetic K vs c     each operation on tables gives the operation on polynomials, or a refusal with its cause
use Rattle.std.specs.Prelude.{◌≡◌, ℕ, ◌<◌, List, [], length, Ok, Err, Result}
use Rattle.refusals.specs.declared.Refusal.{Refusal}
use Rattle.refusals.specs.declared.Refusal.TheVariants.{Unfit}
use Rattle.rings.specs.Kinds.{Kind}
use Rattle.formats.specs.declared.variable.Variable.{Variable}
use Rattle.rows.specs.Tables.{sum, limited}
use Rattle.rows.specs.declared.Row.{Row}
use Rattle.algebra.specs.Polynomials.{Poly, Bounded, sum as plus, negative, product, derivative, truncation, substitution}
use Rattle.algebra.specs.Tables.{CanonicalRows}
use Rattle.arithmetic.specs.Negating.{negated, subtracted}
use Rattle.arithmetic.specs.Multiplying.{product as product_rows}
use Rattle.arithmetic.specs.Truncating.{truncated, product_truncated}
use Rattle.arithmetic.specs.Deriving.{derived}
use Rattle.arithmetic.specs.Substituting.{substituted}
use Rattle.arithmetic.specs.Refusals.{TooLarge, Unfitting, NoProduct, NoSubstitution, every, lowest}

abbrev pub Gives : {V : Type 0} (K : Kind V) → List Variable → Poly K.ops → (Refusal → Type 0) → Result (List (Row V)) Refusal → Type 0
Gives K vs p Bad (Ok xs) = CanonicalRows K vs p xs
Gives K vs p Bad (Err e) = Bad e

module _ {V : Type 0} (K : Kind V) (vs : List Variable) (c : ℕ) where
  abbrev Has : Poly K.ops → List (Row V) → Type 0
  Has = CanonicalRows K vs

  pub record TableArithmetic : Type 0 where
    pub sums : (p q : Poly K.ops) (xs ys : List (Row V)) → Has p xs → Has q ys → Gives K vs (plus K.ops p q) (TooLarge K vs c (plus K.ops p q)) (limited c (sum K xs ys))
    pub negatives : (p : Poly K.ops) (xs : List (Row V)) → Has p xs → Gives K vs (negative K.ops p) (λ _. ⊥) (negated K xs)
    pub differences : (p q : Poly K.ops) (xs ys : List (Row V)) → Has p xs → Has q ys → Gives K vs (plus K.ops p (negative K.ops q)) (TooLarge K vs c (plus K.ops p (negative K.ops q))) (limited c (subtracted K xs ys))
    pub products : (p q : Poly K.ops) (xs ys : List (Row V)) → Has p xs → Has q ys → Gives K vs (product K.ops p q) (NoProduct K (every K.ops) vs c p q) (product_rows K vs c xs ys)
    pub truncations : (k n : ℕ) (p : Poly K.ops) (xs : List (Row V)) → Has p xs → Has (truncation K.ops k n p) (truncated vs k n xs)
    pub truncated_products : (k n : ℕ) (p q : Poly K.ops) (xs ys : List (Row V)) → Has p xs → Has q ys → Gives K vs (truncation K.ops k n (product K.ops p q)) (NoProduct K (lowest K.ops k n) vs c p q) (product_truncated K vs c k n xs ys)
    pub derivatives : (v : ℕ) (p : Poly K.ops) (xs : List (Row V)) → v < length vs → Has p xs → Gives K vs (derivative K.ops v p) (λ e. (e ≡ Unfit) × Unfitting K vs (derivative K.ops v p)) (derived K vs v xs)
    pub substitutions : (v B : ℕ) (p q : Poly K.ops) (xs ys : List (Row V)) → v < length vs → Bounded K.ops (length vs) B p → Has p xs → Has q ys → Gives K vs (substitution K.ops v B p q) (NoSubstitution K vs c v B p q) (substituted K vs c v ys [] xs)
