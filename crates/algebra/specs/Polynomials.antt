-- Polynomials over a ring R. A polynomial in n variables gives a member of R to every list of n exponents, nonzero at finitely many.
-- The definitions go by the list alone and serve every n; a list of another length than n is no concern of a polynomial in n variables.
--     Poly R             a member for every list of exponents
--     Agree n p q        p and q are one polynomial in n variables: they agree at every list of n exponents
--     Bounded n B p      p is zero wherever an exponent is above B
--     Finite n p         p is nonzero at finitely many lists of n exponents: some B bounds it
--     nought             the zero polynomial
--     term t c           c at the list t, zero elsewhere
--     constant c         c at the list of zeros, zero elsewhere
--     variable v         one at the list in which v alone has exponent 1, zero elsewhere
--     sum p q            list by list
--     negative p         list by list
--     scaled c p         c times p, list by list
--     split k f          the sum of f i j over all i + j = k
--     splits e f         the sum of f a b over all pairs of lists a and b that add to e
--     product p q        at each list, the sum of first × second over all pairs of lists that add to it
--     power q i          the product of i copies of q; one for i = 0
--     derivative v p     at each list, the member one higher in v, as often as that exponent says
--     truncation k n p   p without the lists whose first k exponents add to more than n
--     collected v i p    what stands with the power i of the variable v: a polynomial in which v has exponent 0
--     total f B          the sum of f 0, f 1, .., f B
--     substitution v B p q     p with q for the variable v, where the exponents of v in p are at most B: the sum of what stands with each power, times that power of q
use Rattle.std.specs.Prelude.{◌≡◌, ℕ, zero, suc, ◌<◌, cond, List, [], ◌∷◌, length, take, ◌==◌, nat_le}
use Rattle.rings.specs.Members.{Ops, copies}
use Rattle.formats.specs.Keys.{alone}
use Rattle.formats.specs.Exponents.{alike, zeros, exponent, placed, degree}

abbrev pub Poly : Ops → Type 0
Poly R = List ℕ → R.Member

abbrev pub Agree : (R : Ops) → ℕ → Poly R → Poly R → Type 0
Agree R n p q = (e : List ℕ) → length e ≡ n → p e ≡ q e

-- some exponent of e is above B
abbrev pub Beyond : ℕ → List ℕ → Type 0
Beyond B e = (v : ℕ) × (B < exponent v e)

abbrev pub Bounded : (R : Ops) → ℕ → ℕ → Poly R → Type 0
Bounded R n B p = (e : List ℕ) → length e ≡ n → Beyond B e → p e ≡ R.zero

abbrev pub Finite : (R : Ops) → ℕ → Poly R → Type 0
Finite R n p = (B : ℕ) × Bounded R n B p

abbrev pub nought : (R : Ops) → Poly R
nought R e = R.zero

abbrev pub term : (R : Ops) → List ℕ → R.Member → Poly R
term R t c e = cond (alike e t) c R.zero

abbrev pub constant : (R : Ops) → R.Member → Poly R
constant R c e = term R (zeros (length e)) c e

abbrev pub variable : (R : Ops) → ℕ → Poly R
variable R v e = term R (alone (length e) v) R.one e

abbrev pub sum : (R : Ops) → Poly R → Poly R → Poly R
sum R p q e = R.plus (p e) (q e)

abbrev pub negative : (R : Ops) → Poly R → Poly R
negative R p e = R.negative (p e)

abbrev pub scaled : (R : Ops) → R.Member → Poly R → Poly R
scaled R c p e = R.times c (p e)

unfoldable pub split : (R : Ops) → ℕ → (ℕ → ℕ → R.Member) → R.Member
split R zero f = f 0 0
split R (suc k) f = R.plus (f 0 (suc k)) (split R k (λ i j. f (suc i) j))

unfoldable pub splits : (R : Ops) → List ℕ → (List ℕ → List ℕ → R.Member) → R.Member
splits R [] f = f [] []
splits R (k ∷ e) f = split R k (λ i j. splits R e (λ a b. f (i ∷ a) (j ∷ b)))

abbrev pub product : (R : Ops) → Poly R → Poly R → Poly R
product R p q e = splits R e (λ a b. R.times (p a) (q b))

unfoldable pub power : (R : Ops) → Poly R → ℕ → Poly R
power R q zero = constant R R.one
power R q (suc i) = product R (power R q i) q

abbrev pub derivative : (R : Ops) → ℕ → Poly R → Poly R
derivative R v p e = copies R (suc (exponent v e)) (p (placed v (suc (exponent v e)) e))

abbrev pub truncation : (R : Ops) → ℕ → ℕ → Poly R → Poly R
truncation R k n p e = cond (nat_le (degree (take k e)) n) (p e) R.zero

abbrev pub collected : (R : Ops) → ℕ → ℕ → Poly R → Poly R
collected R v i p e = cond (exponent v e == 0) (p (placed v i e)) R.zero

unfoldable pub total : (R : Ops) → (ℕ → Poly R) → ℕ → Poly R
total R f zero = f 0
total R f (suc B) = sum R (total R f B) (f (suc B))

abbrev pub substitution : (R : Ops) → ℕ → ℕ → Poly R → Poly R → Poly R
substitution R v B p q = total R (λ i. product R (collected R v i p) (power R q i)) B
