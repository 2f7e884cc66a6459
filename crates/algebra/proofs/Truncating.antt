-- Truncation is linear, and truncating a product needs only truncated factors. Assumes nothing.
use Rattle.std.proofs.Common.{◌≡◌, ℕ, ◌≤◌, Bool, true, false, cond, leb, List, take, sym, refl, ap, ◌∙◌, ap₂, arith}
use mathlib.Core.Path.{fun_ext}
use Rattle.std.proofs.lemmas.Bool.{cond-true, leb-true, le-leb}
use Rattle.rings.specs.Members.{Ops, RingLaws}
use Rattle.formats.specs.Exponents.{degree}
use Rattle.algebra.specs.Polynomials.{Poly, product, truncation}
use Rattle.algebra.specs.Theorems.{Truncations}
use Rattle.algebra.proofs.Splits.{times_zero, splits-same}
use Rattle.algebra.proofs.Exponents.{degree-added}

module _ (R : Ops) (ring : RingLaws R) where
  pub cond_plus : (t : Bool) (x y : R.Member) → cond t (R.plus x y) R.zero ≡ R.plus (cond t x R.zero) (cond t y R.zero)
  cond_plus true x y = refl
  cond_plus false x y = sym (ring.plus_zero R.zero)

  cond_times : (t : Bool) (c x : R.Member) → cond t (R.times c x) R.zero ≡ R.times c (cond t x R.zero)
  cond_times true c x = refl
  cond_times false c x = sym (times_zero R ring c)

  -- what need not be known where the test fails
  cond_same : (t : Bool) (x y : R.Member) → (t ≡ true → x ≡ y) → cond t x R.zero ≡ cond t y R.zero
  cond_same true x y h = h refl
  cond_same false x y h = refl

  -- at a list no higher than one that is kept, the truncated polynomial is the polynomial
  kept : (k n : ℕ) (p : Poly R) (a : List ℕ) (d : ℕ) → degree (take k a) ≤ d → d ≤ n → p a ≡ truncation R k n p a
  kept k n p a d h l = sym (cond-true (leb (degree (take k a)) n) (p a) R.zero (le-leb (degree (take k a)) n (omega arith)))

  truncated-product : (k n : ℕ) (p q : Poly R) (e : List ℕ) → degree (take k e) ≤ n → product R p q e ≡ product R (truncation R k n p) (truncation R k n q) e
  truncated-product k n p q e h =
      splits-same R ring e _ _ (λ a b la lb ab.
      let s = sym (degree-added k a b (la ∙ sym lb)) ∙ ap (λ x. degree (take k x)) ab in
      ap₂ R.times (kept k n p a (degree (take k e)) (omega arith) h) (kept k n q b (degree (take k e)) (omega arith) h))

  pub truncating : Truncations R
  truncating = record {
    sums = λ k n p q. fun_ext (λ e. cond_plus (leb (degree (take k e)) n) (p e) (q e));
    scales = λ k n c p. fun_ext (λ e. cond_times (leb (degree (take k e)) n) c (p e));
    products = λ k n p q. fun_ext (λ e. cond_same (leb (degree (take k e)) n) (product R p q e) (product R (truncation R k n p) (truncation R k n q) e) (λ t. truncated-product k n p q e (leb-true (degree (take k e)) n t)));
  }
