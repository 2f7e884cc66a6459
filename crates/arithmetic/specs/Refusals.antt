-- Why arithmetic on polynomials is refused, in the words of algebra. The polynomials are in the variables vs, over the kind K, in areas of c rows.
--     Unfitting K vs p       at some list the member of p does not fit
--     Many K vs c p          the canonical rows of p are more than c
--     TooLarge K vs c p e    the refusal e says rightly that p is too large: a member does not fit, or it has too many rows
--     precedes a b           whether a comes before b in the lexicographic order
--     upto R b q             the terms of q from its first down to that at b
--     Pairing                a way to multiply: which lists of a product are worked at all, and what it cuts a product to
--     every                  all of them are, and nothing is cut
--     lowest k n             those whose first k exponents add to at most n are, and the rest is cut
--     NoProduct K w vs c p q e     the refusal e of p times q is right: at some term b of q, an exponent of a worked pair is beyond its field, or the product with that term, or the product with the terms so far, is too large
--     NoSubstitution K vs c v B p q e    the refusal e of q for v in p is right: at some term of p, one of its products with q is refused, or the sum so far is too large
use Rattle.std.specs.Prelude.{◌≡◌, ℕ, ◌<◌, Bool, true, false, cond, ◌&&◌, ◌||◌, ◌⊎◌, List, [], ◌∷◌, length, ◌==◌, ◌≢◌, nat_lt}
use Rattle.refusals.specs.declared.Refusal.{Refusal}
use Rattle.refusals.specs.declared.Refusal.TheVariants.{Unfit, Rows, Exponent}
use Rattle.rings.specs.Members.{Ops}
use Rattle.rings.specs.Kinds.{Kind, Fits}
use Rattle.formats.specs.Exponents.{added, exponent, placed}
use Rattle.formats.specs.Keys.{within}
use Rattle.formats.specs.declared.variable.Variable.{Variable}
use Rattle.rows.specs.declared.Row.{Row}
use Rattle.algebra.specs.Polynomials.{Poly, term, product, power, truncation, substitution}
use Rattle.algebra.specs.Tables.{CanonicalRows}
use Rattle.arithmetic.specs.Truncating.{low}

abbrev pub Unfitting : {V : Type 0} (K : Kind V) → List Variable → Poly K.ops → Type 0
Unfitting K vs p = (e : List ℕ) × (length e ≡ length vs) × (Fits K (p e) → ⊥)

abbrev pub Many : {V : Type 0} (K : Kind V) → List Variable → ℕ → Poly K.ops → Type 0
Many {V} K vs c p = (xs : List (Row V)) × CanonicalRows K vs p xs × (c < length xs)

abbrev pub TooLarge : {V : Type 0} (K : Kind V) → List Variable → ℕ → Poly K.ops → Refusal → Type 0
TooLarge K vs c p e = ((e ≡ Unfit) × Unfitting K vs p) ⊎ ((e ≡ Rows) × Many K vs c p)

abbrev pub precedes : List ℕ → List ℕ → Bool
precedes [] b = false
precedes (i ∷ a) [] = false
precedes (i ∷ a) (j ∷ b) = nat_lt i j || (i == j && precedes a b)

abbrev pub upto : (R : Ops) → List ℕ → Poly R → Poly R
upto R b q e = cond (precedes e b) R.zero (q e)

pub record Pairing (R : Ops) : Type 0 where
  pub works : List ℕ → Bool
  pub cut : Poly R → Poly R

abbrev pub every : (R : Ops) → Pairing R
every R = record { works = λ _. true; cut = λ p. p }

abbrev pub lowest : (R : Ops) → ℕ → ℕ → Pairing R
lowest R k n = record { works = low k n; cut = truncation R k n }

pub record NoProduct {V : Type 0} (K : Kind V) (w : Pairing K.ops) (vs : List Variable) (c : ℕ) (p q : Poly K.ops) (e : Refusal) : Type 0 where
  pub at : List ℕ
  pub long : length at ≡ length vs
  pub there : q at ≡ K.ops.zero → ⊥
  pub cause :
      ((e ≡ Exponent) × ((a : List ℕ) × (length a ≡ length vs) × (p a ≢ K.ops.zero) × (w.works (added a at) ≡ true) × (within vs (added a at) ≡ false)))
      ⊎ (((e ≡ Unfit) × Unfitting K vs (w.cut (product K.ops p (term K.ops at (q at)))))
      ⊎ TooLarge K vs c (w.cut (product K.ops p (upto K.ops at q))) e)

pub record NoSubstitution {V : Type 0} (K : Kind V) (vs : List Variable) (c v B : ℕ) (p q : Poly K.ops) (e : Refusal) : Type 0 where
  pub at : List ℕ
  pub long : length at ≡ length vs
  pub there : p at ≡ K.ops.zero → ⊥
  pub cause :
      ((i : ℕ) × (i < exponent v at) × NoProduct K (every K.ops) vs c (product K.ops (term K.ops (placed v 0 at) (p at)) (power K.ops q i)) q e)
      ⊎ TooLarge K vs c (substitution K.ops v B (upto K.ops at p) q) e
