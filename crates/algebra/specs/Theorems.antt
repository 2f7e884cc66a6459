-- What is proved of polynomials, for every ring R, every count n of variables, every kind K and all variables vs of a format.
--     PolynomialRing R       sum and product make the polynomials a commutative ring
--     Closed R n             what is made of polynomials in n variables is one: it is nonzero at finitely many lists
--     Derivatives R          the derivative is linear and keeps the product rule
--     Truncations R          truncation is linear, and truncating a product needs only truncated factors
--     Substitutions R n v q  substituting q for v respects sum and product, leaves constants and the other variables, and takes v to q; the bound does not matter
--     Keys vs                keys are ordered as their lists are; adding keys adds exponents exactly when no field overruns
--     RowsOfPolynomials K vs     polynomials with canonical rows are equal exactly when the rows are; rows are canonical for one polynomial, which they mean
--     LeadingTerms R n       over a ring without zero divisors: leading terms multiply, a nonzero factor cancels, and division by leading terms finds a quotient exactly if there is one
use Rattle.std.specs.Prelude.{◌≡◌, ℕ, ◌+◌, ◌^◌, ◌<◌, true, false, ◌⊎◌, List, length, ◌≢◌}
use Rattle.rings.specs.Members.{Ops}
use Rattle.rings.specs.Kinds.{Kind}
use Rattle.formats.specs.Keys.{pack, unpack, within}
use Rattle.formats.specs.Variables.{total as bits}
use Rattle.formats.specs.declared.variable.Variable.{Variable}
use Rattle.rows.specs.Canonical.{Canonical}
use Rattle.rows.specs.declared.Row.{Row}
use Rattle.formats.specs.Exponents.{added, covers, Below}
use Rattle.algebra.specs.Polynomials.{Poly, Agree, Bounded, Finite, nought, term, constant, variable, sum, negative, scaled, product, derivative, truncation, substitution}
use Rattle.algebra.specs.Leading.{Leading, Quotient}
use Rattle.algebra.specs.Tables.{Every, CanonicalRows, meant}

pub record PolynomialRing (R : Ops) : Type 0 where
  pub sum_assoc : (p q r : Poly R) → sum R (sum R p q) r ≡ sum R p (sum R q r)
  pub sum_comm : (p q : Poly R) → sum R p q ≡ sum R q p
  pub sum_nought : (p : Poly R) → sum R p (nought R) ≡ p
  pub sum_negative : (p : Poly R) → sum R p (negative R p) ≡ nought R
  pub product_assoc : (p q r : Poly R) → product R (product R p q) r ≡ product R p (product R q r)
  pub product_comm : (p q : Poly R) → product R p q ≡ product R q p
  pub product_one : (p : Poly R) → product R p (constant R R.one) ≡ p
  pub product_sum : (p q r : Poly R) → product R p (sum R q r) ≡ sum R (product R p q) (product R p r)
  pub one_not_nought : (n : ℕ) → Agree R n (constant R R.one) (nought R) → ⊥

pub record Closed (R : Ops) (n : ℕ) : Type 0 where
  pub noughts : Finite R n (nought R)
  pub constants : (c : R.Member) → Finite R n (constant R c)
  pub terms : (t : List ℕ) (c : R.Member) → Finite R n (term R t c)
  pub variables : (v : ℕ) → Finite R n (variable R v)
  pub sums : (p q : Poly R) → Finite R n p → Finite R n q → Finite R n (sum R p q)
  pub negatives : (p : Poly R) → Finite R n p → Finite R n (negative R p)
  pub products : (p q : Poly R) → Finite R n p → Finite R n q → Finite R n (product R p q)
  pub derivatives : (v : ℕ) (p : Poly R) → Finite R n p → Finite R n (derivative R v p)
  pub truncations : (k m : ℕ) (p : Poly R) → Finite R n p → Finite R n (truncation R k m p)
  pub substitutions : (v B : ℕ) (p q : Poly R) → Finite R n p → Finite R n q → Finite R n (substitution R v B p q)

pub record Derivatives (R : Ops) : Type 0 where
  pub sums : (v : ℕ) (p q : Poly R) → derivative R v (sum R p q) ≡ sum R (derivative R v p) (derivative R v q)
  pub scales : (v : ℕ) (c : R.Member) (p : Poly R) → derivative R v (scaled R c p) ≡ scaled R c (derivative R v p)
  pub products : (n v : ℕ) (p q : Poly R) → v < n → Agree R n (derivative R v (product R p q)) (sum R (product R (derivative R v p) q) (product R p (derivative R v q)))

pub record Truncations (R : Ops) : Type 0 where
  pub sums : (k n : ℕ) (p q : Poly R) → truncation R k n (sum R p q) ≡ sum R (truncation R k n p) (truncation R k n q)
  pub scales : (k n : ℕ) (c : R.Member) (p : Poly R) → truncation R k n (scaled R c p) ≡ scaled R c (truncation R k n p)
  pub products : (k n : ℕ) (p q : Poly R) → truncation R k n (product R p q) ≡ truncation R k n (product R (truncation R k n p) (truncation R k n q))

pub record Substitutions (R : Ops) (n v : ℕ) (q : Poly R) : Type 0 where
  pub bounds : (B C : ℕ) (p : Poly R) → Bounded R n B p → Bounded R n C p → Agree R n (substitution R v B p q) (substitution R v C p q)
  pub sums : (B : ℕ) (p s : Poly R) → substitution R v B (sum R p s) q ≡ sum R (substitution R v B p q) (substitution R v B s q)
  pub products : (B C : ℕ) (p s : Poly R) → Bounded R n B p → Bounded R n C s → Agree R n (substitution R v (B + C) (product R p s) q) (product R (substitution R v B p q) (substitution R v C s q))
  pub constants : (B : ℕ) (c : R.Member) → Agree R n (substitution R v B (constant R c) q) (constant R c)
  pub others : (B w : ℕ) → (w ≢ v) → Agree R n (substitution R v B (variable R w) q) (variable R w)
  pub itself : Agree R n (substitution R v 1 (variable R v) q) q

pub record Keys (vs : List Variable) : Type 0 where
  pub order : (a b : List ℕ) → length a ≡ length vs → length b ≡ length vs → within vs a ≡ true → within vs b ≡ true → Below a b → pack vs a < pack vs b
  pub order_back : (a b : List ℕ) → length a ≡ length vs → length b ≡ length vs → within vs a ≡ true → within vs b ≡ true → pack vs a < pack vs b → Below a b
  pub sums : (a b : List ℕ) → length a ≡ length vs → length b ≡ length vs → pack vs (added a b) ≡ pack vs a + pack vs b
  pub fitting : (a b : List ℕ) → length a ≡ length vs → length b ≡ length vs → within vs (added a b) ≡ true → unpack vs (pack vs a + pack vs b) ≡ added a b
  pub overrun : (a b : List ℕ) → length a ≡ length vs → length b ≡ length vs → within vs (added a b) ≡ false → unpack vs (pack vs a + pack vs b) ≢ added a b

pub record RowsOfPolynomials {V : Type 0} (K : Kind V) (vs : List Variable) : Type 0 where
  pub one_table : (p q : Poly K.ops) (xs ys : List (Row V)) → CanonicalRows K vs p xs → CanonicalRows K vs q ys → Agree K.ops (length vs) p q → xs ≡ ys
  pub one_polynomial : (p q : Poly K.ops) (xs : List (Row V)) → CanonicalRows K vs p xs → CanonicalRows K vs q xs → Agree K.ops (length vs) p q
  pub means : (p : Poly K.ops) (xs : List (Row V)) → CanonicalRows K vs p xs → Agree K.ops (length vs) p (meant K vs xs)
  pub finite : (p : Poly K.ops) (xs : List (Row V)) → CanonicalRows K vs p xs → Finite K.ops (length vs) p
  pub canonical : (p : Poly K.ops) (xs : List (Row V)) → CanonicalRows K vs p xs → Canonical K xs × Every (λ x. x.key < 2 ^ bits vs) xs
  pub exist : (xs : List (Row V)) → Canonical K xs → Every (λ x. x.key < 2 ^ bits vs) xs → CanonicalRows K vs (meant K vs xs) xs

pub record LeadingTerms (R : Ops) (n : ℕ) : Type 0 where
  pub leads : (p : Poly R) → Finite R n p → Agree R n p (nought R) ⊎ ((a : List ℕ) × Leading R n p a)
  pub products : (p q : Poly R) (a b : List ℕ) → Leading R n p a → Leading R n q b → Leading R n (product R p q) (added a b) × (product R p q (added a b) ≡ R.times (p a) (q b))
  pub cancels : (p q d : Poly R) → Finite R n p → Finite R n q → Finite R n d → (Agree R n d (nought R) → ⊥) → Agree R n (product R p d) (product R q d) → Agree R n p q
  pub step : (p q d r : Poly R) (t : List ℕ) (c : R.Member) → Agree R n p (sum R (product R q d) r) → Agree R n p (sum R (product R (sum R q (term R t c)) d) (sum R r (negative R (product R (term R t c) d))))
  pub done : (p q d r : Poly R) → Finite R n q → Agree R n p (sum R (product R q d) r) → Agree R n r (nought R) → Quotient R n p d q
  pub stuck : (p q d r s : Poly R) (a b : List ℕ) → Finite R n q → Agree R n p (sum R (product R q d) r) → Leading R n r a → Leading R n d b → (covers a b ≡ false) ⊎ ((m : R.Member) → R.times m (d b) ≢ r a) → Quotient R n p d s → ⊥
