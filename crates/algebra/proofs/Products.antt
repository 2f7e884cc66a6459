-- Polynomials are a commutative ring; equal factors have equal products; the product with one term. Assumes nothing.
use Rattle.std.proofs.Common.{◌≡◌, ℕ, false, List, length, sym, refl, ap, ◌∙◌, ap₂}
use mathlib.Core.Path.{fun_ext}
use Rattle.std.proofs.lemmas.Bool.{cond-true, cond-false, true≢false}
use Rattle.rings.specs.Members.{Ops, RingLaws}
use Rattle.formats.specs.Exponents.{alike, zeros, added, covers}
use Rattle.algebra.specs.Polynomials.{Poly, Agree, nought, term, constant, sum, splits, product}
use Rattle.algebra.specs.Theorems.{PolynomialRing}
use Rattle.algebra.proofs.Splits.{times_zero, splits-same, splits-none, splits-one, splits-plus, splits-times, splits_swap, splits_assoc}
use Rattle.algebra.proofs.Exponents.{alike_same, alike_false, length_zeros, added-zeros, length_added, added_cancel, covers-added}

module _ (R : Ops) (ring : RingLaws R) where
  pub term_here : (t : List ℕ) (c : R.Member) → term R t c t ≡ c
  term_here t c = cond-true (alike t t) c R.zero (alike_same t)

  pub term_elsewhere : (t : List ℕ) (c : R.Member) (e : List ℕ) → (e ≡ t → ⊥) → term R t c e ≡ R.zero
  term_elsewhere t c e n = cond-false (alike e t) c R.zero (alike_false e t n)

  pub product_agree : (n : ℕ) (p p' q q' : Poly R) → Agree R n p p' → Agree R n q q' → Agree R n (product R p q) (product R p' q')
  product_agree n p p' q q' hp hq e l = splits-same R ring e _ _ (λ a b la lb ab. ap₂ R.times (hp a (la ∙ l)) (hq b (lb ∙ l)))

  pub product_comm : (p q : Poly R) → product R p q ≡ product R q p
  product_comm p q = fun_ext (λ e. splits-same R ring e _ _ (λ a b la lb ab. ring.times_comm (p a) (q b)) ∙ splits_swap R ring e (λ a b. R.times (q a) (p b)))

  splits-times-right : (e : List ℕ) (c : R.Member) (f : List ℕ → List ℕ → R.Member) → R.times (splits R e f) c ≡ splits R e (λ a b. R.times (f a b) c)
  splits-times-right e c f = ring.times_comm (splits R e f) c ∙ sym (splits-times R ring e c f) ∙ splits-same R ring e _ _ (λ a b la lb ab. ring.times_comm c (f a b))

  pub product_assoc : (p q r : Poly R) → product R (product R p q) r ≡ product R p (product R q r)
  product_assoc p q r =
      fun_ext (λ e. splits-same R ring e _ _ (λ u c lu lc uc. splits-times-right u (r c) (λ a b. R.times (p a) (q b)) ∙ splits-same R ring u _ _ (λ a b la lb ab. ring.times_assoc (p a) (q b) (r c)))
      ∙ splits_assoc R ring e (λ a b c. R.times (p a) (R.times (q b) (r c)))
      ∙ splits-same R ring e _ _ (λ a u la lu au. splits-times R ring u (p a) (λ b c. R.times (q b) (r c))))

  pub product_sum : (p q r : Poly R) → product R p (sum R q r) ≡ sum R (product R p q) (product R p r)
  product_sum p q r = fun_ext (λ e. splits-same R ring e _ _ (λ a b la lb ab. ring.times_plus (p a) (q b) (r b)) ∙ splits-plus R ring e (λ a b. R.times (p a) (q b)) (λ a b. R.times (p a) (r b)))

  pub sum-product : (p q r : Poly R) → product R (sum R p q) r ≡ sum R (product R p r) (product R q r)
  sum-product p q r = product_comm (sum R p q) r ∙ product_sum r p q ∙ ap₂ (sum R) (product_comm r p) (product_comm r q)

  pub product-nought : (p : Poly R) → product R p (nought R) ≡ nought R
  product-nought p = fun_ext (λ e. splits-none R ring e _ (λ a b la lb ab. times_zero R ring (p a)))

  pub nought-product : (p : Poly R) → product R (nought R) p ≡ nought R
  nought-product p = product_comm (nought R) p ∙ product-nought p

  -- the product with a term, at a list that the term's list is added to
  pub product_term : (p : Poly R) (t : List ℕ) (c : R.Member) (a : List ℕ) → length a ≡ length t → product R p (term R t c) (added a t) ≡ R.times (p a) c
  product_term p t c a l =
      let le = length_added a t l in
      splits-one R ring (added a t) a t _ (l ∙ sym le) (sym le) refl
      (λ x y lx ly xy n. ap (R.times (p x)) (term_elsewhere t c y (λ s. n (added_cancel x a t (lx ∙ le) l (ap (added x) (sym s) ∙ xy)))) ∙ times_zero R ring (p x))
      ∙ ap (R.times (p a)) (term_here t c)

  -- and at any other
  pub product-term-none : (p : Poly R) (t : List ℕ) (c : R.Member) (e : List ℕ) → covers e t ≡ false → product R p (term R t c) e ≡ R.zero
  product-term-none p t c e h =
      splits-none R ring e _ (λ x y lx ly xy. ap (R.times (p x)) (term_elsewhere t c y (λ s. true≢false (sym (covers-added x t (lx ∙ sym ly ∙ ap length s)) ∙ ap (λ w. covers w t) (ap (added x) (sym s) ∙ xy) ∙ h))) ∙ times_zero R ring (p x))

  pub product-constant : (p : Poly R) (c : R.Member) (e : List ℕ) → product R p (constant R c) e ≡ R.times (p e) c
  product-constant p c e =
      splits-same R ring e _ _ (λ a b la lb ab. ap (λ n. R.times (p a) (term R (zeros n) c b)) lb)
      ∙ sym (ap (product R p (term R (zeros (length e)) c)) (added-zeros e))
      ∙ product_term p (zeros (length e)) c e (sym (length_zeros (length e)))

  pub product_one : (p : Poly R) → product R p (constant R R.one) ≡ p
  product_one p = fun_ext (λ e. product-constant p R.one e ∙ ring.times_one (p e))

  pub one_product : (p : Poly R) → product R (constant R R.one) p ≡ p
  one_product p = product_comm (constant R R.one) p ∙ product_one p

  pub polynomials : PolynomialRing R
  polynomials = record {
    sum_assoc = λ p q r. fun_ext (λ e. ring.plus_assoc (p e) (q e) (r e));
    sum_comm = λ p q. fun_ext (λ e. ring.plus_comm (p e) (q e));
    sum_nought = λ p. fun_ext (λ e. ring.plus_zero (p e));
    sum_negative = λ p. fun_ext (λ e. ring.plus_negative (p e));
    product_assoc = product_assoc;
    product_comm = product_comm;
    product_one = product_one;
    product_sum = product_sum;
    one_not_nought = λ n h. let z = zeros n in ring.one_not_zero (sym (cond-true (alike z (zeros (length z))) R.one R.zero (ap (λ m. alike z (zeros m)) (length_zeros n) ∙ alike_same z)) ∙ h z (length_zeros n));
  }
