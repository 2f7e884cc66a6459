-- Sums over the ways to split an exponent, or a list of exponents, into two that add to it. Assumes nothing.
--     split_same, splits-same      equal summands, given what two parts of a split are
--     split_none, splits-none      all summands are zero
--     split_one, splits-one        all summands but one are zero
--     split_last                   the summand with nothing in the second part, apart
--     split_plus, splits-plus      the sum of two sums
--     split_times, splits-times    a factor in each summand
--     split_swap, splits_swap      the two parts change places
--     split_split, splits_split    one sum within another changes places with it
--     split_assoc, splits_assoc    splitting the first part again is splitting the second again
use Rattle.std.proofs.Common.{◌≡◌, ℕ, zero, suc, ◌+◌, List, [], ◌∷◌, length, sym, refl, ap, ◌∙◌, ap₂, arith}
use Rattle.rings.specs.Members.{Ops, RingLaws}
use Rattle.formats.specs.Exponents.{added}
use Rattle.algebra.specs.Polynomials.{split, splits}

module _ (R : Ops) (ring : RingLaws R) where
  abbrev M : Type 0
  M = R.Member

  pub zero-plus : (a : M) → R.plus R.zero a ≡ a
  zero-plus a = ring.plus_comm R.zero a ∙ ring.plus_zero a

  pub plus_left_comm : (a b c : M) → R.plus a (R.plus b c) ≡ R.plus b (R.plus a c)
  plus_left_comm a b c = sym (ring.plus_assoc a b c) ∙ ap (λ x. R.plus x c) (ring.plus_comm a b) ∙ ring.plus_assoc b a c

  -- two sums, first to first and second to second
  pub plus-plus : (a b c d : M) → R.plus (R.plus a b) (R.plus c d) ≡ R.plus (R.plus a c) (R.plus b d)
  plus-plus a b c d = ring.plus_assoc a b (R.plus c d) ∙ ap (R.plus a) (plus_left_comm b c d) ∙ sym (ring.plus_assoc a c (R.plus b d))

  pub times_zero : (a : M) → R.times a R.zero ≡ R.zero
  times_zero a = opposite (R.times a R.zero) (sym (ring.times_plus a R.zero R.zero) ∙ ap (R.times a) (ring.plus_zero R.zero))
    where
      opposite : (x : M) → R.plus x x ≡ x → x ≡ R.zero
      opposite x e = sym (ring.plus_zero x) ∙ ap (R.plus x) (sym (ring.plus_negative x)) ∙ sym (ring.plus_assoc x x (R.negative x)) ∙ ap (λ y. R.plus y (R.negative x)) e ∙ ring.plus_negative x

  pub zero-times : (a : M) → R.times R.zero a ≡ R.zero
  zero-times a = ring.times_comm R.zero a ∙ times_zero a

  pub split_same : (k : ℕ) (f g : ℕ → ℕ → M) → ((i j : ℕ) → i + j ≡ k → f i j ≡ g i j) → split R k f ≡ split R k g
  unfolding split
  split_same zero f g h = h 0 0 refl
  split_same (suc k) f g h = ap₂ R.plus (h 0 (suc k) (omega arith)) (split_same k (λ i j. f (suc i) j) (λ i j. g (suc i) j) (λ i j e. h (suc i) j (omega arith)))

  pub splits-same : (e : List ℕ) (f g : List ℕ → List ℕ → M) → ((a b : List ℕ) → length a ≡ length e → length b ≡ length e → added a b ≡ e → f a b ≡ g a b) → splits R e f ≡ splits R e g
  unfolding splits
  splits-same [] f g h = h [] [] refl refl refl
  splits-same (k ∷ e) f g h = split_same k _ _ (λ i j s. splits-same e _ _ (λ a b la lb ab. h (i ∷ a) (j ∷ b) (ap suc la) (ap suc lb) (ap₂ ◌∷◌ s ab)))

  pub split_none : (k : ℕ) (f : ℕ → ℕ → M) → ((i j : ℕ) → i + j ≡ k → f i j ≡ R.zero) → split R k f ≡ R.zero
  unfolding split
  split_none zero f h = h 0 0 refl
  split_none (suc k) f h = ap₂ R.plus (h 0 (suc k) (omega arith)) (split_none k (λ i j. f (suc i) j) (λ i j e. h (suc i) j (omega arith))) ∙ ring.plus_zero R.zero

  pub splits-none : (e : List ℕ) (f : List ℕ → List ℕ → M) → ((a b : List ℕ) → length a ≡ length e → length b ≡ length e → added a b ≡ e → f a b ≡ R.zero) → splits R e f ≡ R.zero
  unfolding splits
  splits-none [] f h = h [] [] refl refl refl
  splits-none (k ∷ e) f h = split_none k _ (λ i j s. splits-none e _ (λ a b la lb ab. h (i ∷ a) (j ∷ b) (ap suc la) (ap suc lb) (ap₂ ◌∷◌ s ab)))

  pub split_one : (k i j : ℕ) (f : ℕ → ℕ → M) → i + j ≡ k → ((x y : ℕ) → x + y ≡ k → (x ≡ i → ⊥) → f x y ≡ R.zero) → split R k f ≡ f i j
  unfolding split
  split_one zero i j f e h = ap₂ f (omega arith) (omega arith)
  split_one (suc k) zero j f e h =
      ap₂ R.plus (ap (f 0) (omega arith)) (split_none k (λ x y. f (suc x) y) (λ x y s. h (suc x) y (omega arith) (λ n. omega arith))) ∙ ring.plus_zero (f 0 j)
  split_one (suc k) (suc i) j f e h =
      ap₂ R.plus (h 0 (suc k) (omega arith) (λ n. omega arith)) (split_one k i j (λ x y. f (suc x) y) (omega arith) (λ x y s n. h (suc x) y (omega arith) (λ m. n (omega arith)))) ∙ zero-plus (f (suc i) j)

  -- for a and b of the length of e, that add to e
  pub splits-one : (e a b : List ℕ) (f : List ℕ → List ℕ → M) → length a ≡ length e → length b ≡ length e → added a b ≡ e → ((x y : List ℕ) → length x ≡ length e → length y ≡ length e → added x y ≡ e → (x ≡ a → ⊥) → f x y ≡ R.zero) → splits R e f ≡ f a b
  unfolding splits
  splits-one [] [] [] f la lb ab h = refl
  splits-one [] (i ∷ a) b f la lb ab h = absurd (omega arith)
  splits-one [] [] (j ∷ b) f la lb ab h = absurd (omega arith)
  splits-one (k ∷ e) [] b f la lb ab h = absurd (omega arith)
  splits-one (k ∷ e) (i ∷ a) [] f la lb ab h = absurd (omega arith)
  splits-one (k ∷ e) (i ∷ a) (j ∷ b) f la lb ab h =
      split_one k i j _ (cc) (λ x y s n. splits-none e _ (λ u w lu lw uw. h (x ∷ u) (y ∷ w) (ap suc lu) (ap suc lw) (ap₂ ◌∷◌ s uw) (λ m. n (cc))))
      ∙ splits-one e a b (λ u w. f (i ∷ u) (j ∷ w)) (omega arith) (omega arith) (cc) (λ u w lu lw uw n. h (i ∷ u) (j ∷ w) (ap suc lu) (ap suc lw) (cc) (λ m. n (cc)))

  pub split_last : (k : ℕ) (f : ℕ → ℕ → M) → split R (suc k) f ≡ R.plus (split R k (λ i j. f i (suc j))) (f (suc k) 0)
  unfolding split
  split_last zero f = refl
  split_last (suc k) f = ap (R.plus (f 0 (suc (suc k)))) (split_last k (λ i j. f (suc i) j)) ∙ sym (ring.plus_assoc _ _ _)

  pub split_plus : (k : ℕ) (f g : ℕ → ℕ → M) → split R k (λ i j. R.plus (f i j) (g i j)) ≡ R.plus (split R k f) (split R k g)
  unfolding split
  split_plus zero f g = refl
  split_plus (suc k) f g = ap (R.plus (R.plus (f 0 (suc k)) (g 0 (suc k)))) (split_plus k (λ i j. f (suc i) j) (λ i j. g (suc i) j)) ∙ plus-plus _ _ _ _

  pub splits-plus : (e : List ℕ) (f g : List ℕ → List ℕ → M) → splits R e (λ a b. R.plus (f a b) (g a b)) ≡ R.plus (splits R e f) (splits R e g)
  unfolding splits
  splits-plus [] f g = refl
  splits-plus (k ∷ e) f g = split_same k _ _ (λ i j s. splits-plus e (λ a b. f (i ∷ a) (j ∷ b)) (λ a b. g (i ∷ a) (j ∷ b))) ∙ split_plus k _ _

  pub split_times : (k : ℕ) (c : M) (f : ℕ → ℕ → M) → split R k (λ i j. R.times c (f i j)) ≡ R.times c (split R k f)
  unfolding split
  split_times zero c f = refl
  split_times (suc k) c f = ap (R.plus (R.times c (f 0 (suc k)))) (split_times k c (λ i j. f (suc i) j)) ∙ sym (ring.times_plus c _ _)

  pub splits-times : (e : List ℕ) (c : M) (f : List ℕ → List ℕ → M) → splits R e (λ a b. R.times c (f a b)) ≡ R.times c (splits R e f)
  unfolding splits
  splits-times [] c f = refl
  splits-times (k ∷ e) c f = split_same k _ _ (λ i j s. splits-times e c (λ a b. f (i ∷ a) (j ∷ b))) ∙ split_times k c _

  pub split_swap : (k : ℕ) (f : ℕ → ℕ → M) → split R k (λ i j. f j i) ≡ split R k f
  unfolding split
  split_swap zero f = refl
  split_swap (suc k) f = ap (R.plus (f (suc k) 0)) (split_swap k (λ i j. f i (suc j))) ∙ ring.plus_comm _ _ ∙ sym (split_last k f)

  pub splits_swap : (e : List ℕ) (f : List ℕ → List ℕ → M) → splits R e (λ a b. f b a) ≡ splits R e f
  unfolding splits
  splits_swap [] f = refl
  splits_swap (k ∷ e) f = split_same k _ _ (λ i j s. splits_swap e (λ a b. f (j ∷ a) (i ∷ b))) ∙ split_swap k (λ i j. splits R e (λ a b. f (i ∷ a) (j ∷ b)))

  pub split_split : (k m : ℕ) (f : ℕ → ℕ → ℕ → ℕ → M) → split R k (λ i j. split R m (λ x y. f i j x y)) ≡ split R m (λ x y. split R k (λ i j. f i j x y))
  unfolding split
  split_split zero m f = refl
  split_split (suc k) m f = ap (R.plus (split R m (f 0 (suc k)))) (split_split k m (λ i j. f (suc i) j)) ∙ sym (split_plus m (f 0 (suc k)) _)

  pub splits_split : (e : List ℕ) (m : ℕ) (f : List ℕ → List ℕ → ℕ → ℕ → M) → splits R e (λ a b. split R m (λ x y. f a b x y)) ≡ split R m (λ x y. splits R e (λ a b. f a b x y))
  unfolding splits
  splits_split [] m f = refl
  splits_split (k ∷ e) m f = split_same k _ _ (λ i j s. splits_split e m (λ a b. f (i ∷ a) (j ∷ b))) ∙ split_split k m _

  pub split_assoc : (k : ℕ) (f : ℕ → ℕ → ℕ → M) → split R k (λ i z. split R i (λ x y. f x y z)) ≡ split R k (λ x j. split R j (λ y z. f x y z))
  unfolding split
  split_assoc zero f = refl
  split_assoc (suc k) f =
      ap (R.plus (f 0 0 (suc k))) (split_plus k (λ i z. f 0 (suc i) z) (λ i z. split R i (λ x y. f (suc x) y z)))
      ∙ sym (ring.plus_assoc _ _ _)
      ∙ ap (R.plus (R.plus (f 0 0 (suc k)) (split R k (λ i z. f 0 (suc i) z)))) (split_assoc k (λ x y z. f (suc x) y z))

  pub splits_assoc : (e : List ℕ) (f : List ℕ → List ℕ → List ℕ → M) → splits R e (λ u c. splits R u (λ a b. f a b c)) ≡ splits R e (λ a u. splits R u (λ b c. f a b c))
  unfolding splits
  splits_assoc [] f = refl
  splits_assoc (k ∷ e) f =
      split_same k _ _ (λ i z s. splits_split e i (λ u c x y. splits R u (λ a b. f (x ∷ a) (y ∷ b) (z ∷ c))))
      ∙ split_assoc k (λ x y z. splits R e (λ u c. splits R u (λ a b. f (x ∷ a) (y ∷ b) (z ∷ c))))
      ∙ split_same k _ _ (λ x j s. split_same j _ _ (λ y z t. splits_assoc e (λ a b c. f (x ∷ a) (y ∷ b) (z ∷ c))) ∙ sym (splits_split e j (λ a u y z. splits R u (λ b c. f (x ∷ a) (y ∷ b) (z ∷ c)))))
