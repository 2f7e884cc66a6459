-- The derivative is linear and keeps the product rule. Assumes nothing.
use Rattle.std.proofs.Common.{◌≡◌, ℕ, zero, suc, ◌+◌, ◌<◌, List, [], ◌∷◌, length, sym, ap, ◌∙◌, ap₂, add-zero, add-suc, arith}
use mathlib.Core.Path.{fun_ext}
use Rattle.rings.specs.Members.{Ops, RingLaws, copies}
use Rattle.formats.specs.Exponents.{exponent}
use Rattle.algebra.specs.Polynomials.{Poly, split, splits, product, derivative}
use Rattle.algebra.specs.Theorems.{Derivatives}
use Rattle.algebra.proofs.Splits.{zero-plus, zero-times, times_zero, split_same, splits-same, split_plus, split_times, splits-times, split_last}

module _ (R : Ops) (ring : RingLaws R) where
  abbrev M : Type 0
  M = R.Member

  one-times : (a : M) → R.times R.one a ≡ a
  one-times a = ring.times_comm R.one a ∙ ring.times_one a

  plus_times : (a b c : M) → R.times (R.plus a b) c ≡ R.plus (R.times a c) (R.times b c)
  plus_times a b c = ring.times_comm (R.plus a b) c ∙ ring.times_plus c a b ∙ ap₂ R.plus (ring.times_comm c a) (ring.times_comm c b)

  -- copies of a member are a multiple of it
  copies-times : (n : ℕ) (a : M) → copies R n a ≡ R.times (copies R n R.one) a
  copies-times zero a = sym (zero-times R ring a)
  copies-times (suc n) a = ap₂ R.plus (copies-times n a) (sym (one-times a)) ∙ sym (plus_times (copies R n R.one) R.one a)

  copies-plus : (n : ℕ) (a b : M) → copies R n (R.plus a b) ≡ R.plus (copies R n a) (copies R n b)
  copies-plus n a b = copies-times n (R.plus a b) ∙ ring.times_plus (copies R n R.one) a b ∙ ap₂ R.plus (sym (copies-times n a)) (sym (copies-times n b))

  copies-scaled : (n : ℕ) (c a : M) → copies R n (R.times c a) ≡ R.times c (copies R n a)
  copies-scaled zero c a = sym (times_zero R ring c)
  copies-scaled (suc n) c a = ap (λ x. R.plus x (R.times c a)) (copies-scaled n c a) ∙ sym (ring.times_plus c (copies R n a) a)

  copies-add : (m n : ℕ) (a : M) → copies R (m + n) a ≡ R.plus (copies R m a) (copies R n a)
  copies-add m zero a = ap (λ k. copies R k a) (add-zero m) ∙ sym (ring.plus_zero (copies R m a))
  copies-add m (suc n) a = ap (λ k. copies R k a) (add-suc m n) ∙ ap (λ x. R.plus x a) (copies-add m n a) ∙ ring.plus_assoc (copies R m a) (copies R n a) a

  copies_split : (n k : ℕ) (f : ℕ → ℕ → M) → copies R n (split R k f) ≡ split R k (λ i j. copies R n (f i j))
  copies_split n k f = copies-times n (split R k f) ∙ sym (split_times R ring k (copies R n R.one) f) ∙ split_same R ring k _ _ (λ i j s. sym (copies-times n (f i j)))

  copies-splits : (n : ℕ) (e : List ℕ) (f : List ℕ → List ℕ → M) → copies R n (splits R e f) ≡ splits R e (λ a b. copies R n (f a b))
  copies-splits n e f = copies-times n (splits R e f) ∙ sym (splits-times R ring e (copies R n R.one) f) ∙ splits-same R ring e _ _ (λ a b la lb ab. sym (copies-times n (f a b)))

  -- as many copies of a sum over the splits as the parts add to: each summand as often as its first part says, and as often as its second
  split_copies : (k : ℕ) (f : ℕ → ℕ → M) → copies R (suc k) (split R (suc k) f) ≡ R.plus (split R k (λ i j. copies R (suc i) (f (suc i) j))) (split R k (λ i j. copies R (suc j) (f i (suc j))))
  unfolding split
  split_copies k f =
      copies_split (suc k) (suc k) f
      ∙ split_same R ring (suc k) _ (λ i j. R.plus (copies R i (f i j)) (copies R j (f i j))) (λ i j s. ap (λ n. copies R n (f i j)) (sym s) ∙ copies-add i j (f i j))
      ∙ split_plus R ring (suc k) (λ i j. copies R i (f i j)) (λ i j. copies R j (f i j))
      ∙ ap₂ R.plus (zero-plus R ring _) (split_last R ring k (λ i j. copies R j (f i j)) ∙ ring.plus_zero _)

  product-rule : (v : ℕ) (p q : Poly R) (e : List ℕ) → v < length e → derivative R v (product R p q) e ≡ R.plus (product R (derivative R v p) q e) (product R p (derivative R v q) e)
  unfolding splits
  product-rule v p q [] h = absurd (omega arith)
  product-rule zero p q (k ∷ e) h =
      split_copies k (λ i j. splits R e (λ a b. R.times (p (i ∷ a)) (q (j ∷ b))))
      ∙ ap₂ R.plus
      (split_same R ring k _ _ (λ i j s. copies-splits (suc i) e _ ∙ splits-same R ring e _ _ (λ a b la lb ab. first (suc i) (p (suc i ∷ a)) (q (j ∷ b)))))
      (split_same R ring k _ _ (λ i j s. copies-splits (suc j) e _ ∙ splits-same R ring e _ _ (λ a b la lb ab. copies-scaled (suc j) (p (i ∷ a)) (q (suc j ∷ b)))))
    where
      first : (n : ℕ) (a b : M) → copies R n (R.times a b) ≡ R.times (copies R n a) b
      first n a b = ap (copies R n) (ring.times_comm a b) ∙ copies-scaled n b a ∙ ring.times_comm b (copies R n a)
  product-rule (suc v) p q (k ∷ e) h =
      copies_split (suc (exponent v e)) k _
      ∙ split_same R ring k _ _ (λ i j s. product-rule v (λ a. p (i ∷ a)) (λ b. q (j ∷ b)) e (omega arith))
      ∙ split_plus R ring k _ _

  pub differentiating : Derivatives R
  differentiating = record {
    sums = λ v p q. fun_ext (λ e. copies-plus (suc (exponent v e)) _ _);
    scales = λ v c p. fun_ext (λ e. copies-scaled (suc (exponent v e)) c _);
    products = λ n v p q h e l. product-rule v p q e (omega arith);
  }
