-- What is made of polynomials is nonzero at finitely many lists. Assumes nothing.
use Rattle.std.proofs.Common.{◌≡◌, ℕ, zero, suc, ◌+◌, eqb, leb, List, length, take, sym, refl, ap, ◌∙◌, ap₂, ⊎_elim, arith}
use Rattle.std.proofs.lemmas.List.{length-set, get_or-set_other}
use Rattle.std.proofs.lemmas.Bool.{cases_lt, cond_both, eqb-true}
use Rattle.rings.specs.Members.{Ops, RingLaws, copies}
use Rattle.formats.specs.Keys.{alone}
use Rattle.formats.specs.Exponents.{zeros, exponent, placed, degree}
use Rattle.algebra.specs.Polynomials.{Poly, Bounded, Finite, term, sum, product, power, derivative, truncation, collected, total}
use Rattle.algebra.specs.Theorems.{Closed}
use Rattle.algebra.proofs.Splits.{zero-plus, zero-times, times_zero, splits-none}
use Rattle.algebra.proofs.Exponents.{exponent-added, exponent-degree, exponent-raised}
use Rattle.algebra.proofs.Products.{term_elsewhere}

module _ (R : Ops) (ring : RingLaws R) where
  pub negative-zero : R.negative R.zero ≡ R.zero
  negative-zero = sym (zero-plus R ring (R.negative R.zero)) ∙ ring.plus_negative R.zero

  pub copies-zero : (n : ℕ) → copies R n R.zero ≡ R.zero
  copies-zero zero = refl
  copies-zero (suc n) = ap (λ x. R.plus x R.zero) (copies-zero n) ∙ ring.plus_zero R.zero

  module _ (n : ℕ) where
    bounded_term : (t : List ℕ) (c : R.Member) → Bounded R n (degree t) (term R t c)
    bounded_term t c e l far =
        term_elsewhere R ring t c e (λ s. let h = far.1 in let d = exponent-degree far.0 t in let same = ap (exponent far.0) s in omega arith)

    -- a polynomial that is a term at each list of its length
    finite_like : (t : ℕ → List ℕ) (c : R.Member) → Finite R n (λ e. term R (t (length e)) c e)
    finite_like t c = (degree (t n), λ e l far. ap (λ m. term R (t m) c e) l ∙ bounded_term (t n) c e l far)

    pub finite-sum : (p q : Poly R) → Finite R n p → Finite R n q → Finite R n (sum R p q)
    finite-sum p q f g =
        (f.0 + g.0, λ e l far. let h = far.1 in ap₂ R.plus (f.1 e l (far.0, omega arith)) (g.1 e l (far.0, omega arith)) ∙ ring.plus_zero R.zero)

    pub bounded_product : (B C : ℕ) (p q : Poly R) → Bounded R n B p → Bounded R n C q → Bounded R n (B + C) (product R p q)
    bounded_product B C p q bp bq e l far =
        splits-none R ring e _ (λ a b la lb ab.
        let h = far.1 in
        let s = sym (exponent-added far.0 a b (la ∙ sym lb)) ∙ ap (exponent far.0) ab in
        ⊎_elim (λ h. ap (λ x. R.times x (q b)) (bp a (la ∙ l) (far.0, h)) ∙ zero-times R ring (q b))
        (λ h. ap (R.times (p a)) (bq b (lb ∙ l) (far.0, omega arith)) ∙ times_zero R ring (p a))
        (cases_lt B (exponent far.0 a)))

    pub finite-product : (p q : Poly R) → Finite R n p → Finite R n q → Finite R n (product R p q)
    finite-product p q f g = (f.0 + g.0, bounded_product f.0 g.0 p q f.1 g.1)

    pub finite-derivative : (v : ℕ) (p : Poly R) → Finite R n p → Finite R n (derivative R v p)
    finite-derivative v p f = (
      f.0,
      λ e l far.
          let i = suc (exponent v e) in
          let h = far.1 in
          let r = exponent-raised far.0 v i e (omega arith) in
          ap (copies R i) (f.1 (placed v i e) (length-set e v i ∙ l) (far.0, omega arith)) ∙ copies-zero i,
    )

    pub finite-truncation : (k m : ℕ) (p : Poly R) → Finite R n p → Finite R n (truncation R k m p)
    finite-truncation k m p f =
        (f.0, λ e l far. cond_both (leb (degree (take k e)) m) (p e) R.zero (λ x. x ≡ R.zero) (λ t. f.1 e l far) (λ t. refl))

    pub finite-collected : (v i : ℕ) (p : Poly R) → Finite R n p → Finite R n (collected R v i p)
    finite-collected v i p f = (
      f.0,
      λ e l far. cond_both (eqb (exponent v e) 0) (p (placed v i e)) R.zero (λ x. x ≡ R.zero)
          (λ t.
          let none = eqb-true (exponent v e) 0 t in
          let h = far.1 in
          let other : far.0 ≡ v → ⊥ = λ s. let same = ap (λ w. exponent w e) s in omega arith in
          let kept = get_or-set_other e v far.0 i 0 other in
          f.1 (placed v i e) (length-set e v i ∙ l) (far.0, omega arith))
          (λ t. refl),
    )

    pub finite-power : (q : Poly R) → Finite R n q → (i : ℕ) → Finite R n (power R q i)
    unfolding power
    finite-power q f zero = finite_like zeros R.one
    finite-power q f (suc i) = finite-product (power R q i) q (finite-power q f i) f

    pub finite-total : (f : ℕ → Poly R) → ((i : ℕ) → Finite R n (f i)) → (B : ℕ) → Finite R n (total R f B)
    unfolding total
    finite-total f h zero = h 0
    finite-total f h (suc B) = finite-sum (total R f B) (f (suc B)) (finite-total f h B) (h (suc B))

    pub closing : Closed R n
    closing = record {
      noughts = (0, λ e l far. refl);
      constants = finite_like zeros;
      terms = λ t c. (degree t, bounded_term t c);
      variables = λ v. finite_like (λ m. alone m v) R.one;
      sums = finite-sum;
      negatives = λ p f. (f.0, λ e l far. ap R.negative (f.1 e l far) ∙ negative-zero);
      products = finite-product;
      derivatives = finite-derivative;
      truncations = finite-truncation;
      substitutions = λ v B p q f g. finite-total (λ i. product R (collected R v i p) (power R q i)) (λ i. finite-product (collected R v i p) (power R q i) (finite-collected v i p f) (finite-power q g i)) B;
    }
