-- Substitution respects sum and product, leaves constants and the other variables, and takes the variable to what stands for it; what it makes of one term. Assumes nothing.
use Rattle.std.proofs.Common.{◌≡◌, ℕ, zero, suc, ◌+◌, ◌<◌, ◌≤◌, Bool, true, false, cond, eqb, List, [], ◌∷◌, length, sym, refl, ap, ◌∙◌, ap₂, ⊎_elim, add-zero, add-suc, add_comm, suc-add, zero-add, arith}
use mathlib.Core.Path.{fun_ext}
use Rattle.std.proofs.lemmas.List.{length-set, get_or-set_same, get_or-set_other, set-get_or, set-set}
use Rattle.std.proofs.lemmas.Bool.{cases_Bool, cases_eq, cond-false, cond_both, eqb-true, eqb-false, ne_eqb}
use Rattle.rings.specs.Members.{Ops, RingLaws}
use Rattle.formats.specs.Keys.{alone}
use Rattle.formats.specs.Exponents.{zeros, exponent, placed}
use Rattle.algebra.specs.Polynomials.{Poly, Agree, Bounded, nought, term, constant, variable, sum, split, splits, product, power, collected, total, substitution}
use Rattle.algebra.specs.Theorems.{Substitutions}
use Rattle.algebra.proofs.Splits.{zero-plus, plus-plus, zero-times, times_zero, split_same, split_none, split_one, split_times, split_split, splits-same, splits-none, splits_split}
use Rattle.algebra.proofs.Exponents.{alike_iff, length_zeros, exponent-zeros}
use Rattle.algebra.proofs.Truncating.{cond_plus}
use Rattle.algebra.proofs.Products.{term_elsewhere, product_agree, product_comm, product_assoc, product_sum, sum-product, product_one, one_product, product-nought, nought-product}

module _ (R : Ops) (ring : RingLaws R) where
  abbrev M : Type 0
  M = R.Member

  -- sums of polynomials over a range, at one list
  total-same : (f g : ℕ → Poly R) (e : List ℕ) (B : ℕ) → ((i : ℕ) → f i e ≡ g i e) → total R f B e ≡ total R g B e
  unfolding total
  total-same f g e zero h = h 0
  total-same f g e (suc B) h = ap₂ R.plus (total-same f g e B h) (h (suc B))

  total-plus : (f g : ℕ → Poly R) (e : List ℕ) (B : ℕ) → total R (λ i. sum R (f i) (g i)) B e ≡ R.plus (total R f B e) (total R g B e)
  unfolding total
  total-plus f g e zero = refl
  total-plus f g e (suc B) = ap (λ x. R.plus x (R.plus (f (suc B) e) (g (suc B) e))) (total-plus f g e B) ∙ plus-plus R ring _ _ _ _

  total_first : (f : ℕ → Poly R) (e : List ℕ) (B : ℕ) → total R f (suc B) e ≡ R.plus (f 0 e) (total R (λ i. f (suc i)) B e)
  unfolding total
  total_first f e zero = refl
  total_first f e (suc B) = ap (λ x. R.plus x (f (suc (suc B)) e)) (total_first f e B) ∙ ring.plus_assoc _ _ _

  -- summands above B that are zero add nothing
  total-more : (f : ℕ → Poly R) (e : List ℕ) (B d : ℕ) → ((i : ℕ) → B < i → f i e ≡ R.zero) → total R f (B + d) e ≡ total R f B e
  unfolding total
  total-more f e B zero h = ap (λ n. total R f n e) (add-zero B)
  total-more f e B (suc d) h = ap (λ n. total R f n e) (add-suc B d) ∙ ap₂ R.plus (total-more f e B d h) (h (suc (B + d)) (omega arith)) ∙ ring.plus_zero _

  total-none : (f : ℕ → Poly R) (e : List ℕ) (B : ℕ) → ((i : ℕ) → i ≤ B → f i e ≡ R.zero) → total R f B e ≡ R.zero
  unfolding total
  total-none f e zero h = h 0 (omega arith)
  total-none f e (suc B) h = ap₂ R.plus (total-none f e B (λ i l. h i (omega arith))) (h (suc B) (omega arith)) ∙ ring.plus_zero R.zero

  -- all summands but one are zero
  total-one : (f : ℕ → Poly R) (e : List ℕ) (B k : ℕ) → k ≤ B → ((i : ℕ) → (i ≡ k → ⊥) → f i e ≡ R.zero) → total R f B e ≡ f k e
  unfolding total
  total-one f e zero k l h = let z : 0 ≡ k = omega arith in ap (λ i. f i e) z
  total-one f e (suc B) k l h =
      let again = total-one f e B k in
      ⊎_elim
      (λ s. ap (λ x. R.plus x (f (suc B) e)) (total-none f e B (λ i m. h i (λ t. omega arith))) ∙ zero-plus R ring (f (suc B) e) ∙ ap (λ i. f i e) (sym s))
      (λ s. ap₂ R.plus (again (omega arith) h) (h (suc B) (λ t. s (sym t))) ∙ ring.plus_zero (f k e))
      (cases_eq k (suc B))

  total-product : (f : ℕ → Poly R) (q : Poly R) (B : ℕ) → product R (total R f B) q ≡ total R (λ i. product R (f i) q) B
  unfolding total
  total-product f q zero = refl
  total-product f q (suc B) = sum-product R ring (total R f B) (f (suc B)) q ∙ ap (λ x. sum R x (product R (f (suc B)) q)) (total-product f q B)

  product-total : (p : Poly R) (f : ℕ → Poly R) (B : ℕ) → product R p (total R f B) ≡ total R (λ i. product R p (f i)) B
  unfolding total
  product-total p f zero = refl
  product-total p f (suc B) = product_sum R ring p (total R f B) (f (suc B)) ∙ ap (λ x. sum R x (product R p (f (suc B)))) (product-total p f B)

  -- the sum of f i j over all i + j = k
  abbrev joined : (ℕ → ℕ → Poly R) → ℕ → Poly R
  joined f k e = split R k (λ i j. f i j e)

  -- the summands f i j with i at most B and j at most C are those with i + j at most B + C, if the others are zero
  total_box : (e : List ℕ) (B C : ℕ) (f : ℕ → ℕ → Poly R) → ((i j : ℕ) → B < i → f i j e ≡ R.zero) → ((i j : ℕ) → C < j → f i j e ≡ R.zero) → total R (joined f) (B + C) e ≡ total R (λ i. total R (f i) C) B e
  unfolding total split
  total_box e zero C f hB hC =
      ap (λ n. total R (joined f) n e) (zero-add C)
      ∙ total-same (joined f) (f 0) e C (λ k. split_one R ring k 0 k (λ i j. f i j e) (zero-add k) (λ i j s n. hB i j (omega arith)))
  total_box e (suc B) C f hB hC =
      let turned : suc (B + C) ≡ C + suc B = omega arith in
      ap (λ n. total R (joined f) n e) (suc-add B C)
      ∙ total_first (joined f) e (B + C)
      ∙ ap (R.plus (f 0 0 e)) (total-plus (λ k. f 0 (suc k)) (joined (λ i. f (suc i))) e (B + C))
      ∙ sym (ring.plus_assoc _ _ _)
      ∙ ap₂ R.plus (sym (total_first (f 0) e (B + C)) ∙ ap (λ n. total R (f 0) n e) turned ∙ total-more (f 0) e C (suc B) (hC 0)) (total_box e B C (λ i. f (suc i)) (λ i j h. hB (suc i) j (omega arith)) (λ i j h. hC (suc i) j h))
      ∙ sym (total_first (λ i. total R (f i) C) e B)

  -- a sum over splits, as a factor
  split_product : (k : ℕ) (f : ℕ → ℕ → Poly R) (q : Poly R) (e : List ℕ) → product R (joined f k) q e ≡ split R k (λ i j. product R (f i j) q e)
  split_product k f q e =
      splits-same R ring e _ _ (λ a b la lb ab. ring.times_comm _ (q b) ∙ sym (split_times R ring k (q b) (λ i j. f i j a)) ∙ split_same R ring k _ _ (λ i j s. ring.times_comm (q b) (f i j a)))
      ∙ splits_split R ring e k (λ a b i j. R.times (f i j a) (q b))

  power-add : (q : Poly R) (i j : ℕ) → power R q (i + j) ≡ product R (power R q i) (power R q j)
  unfolding power
  power-add q i zero = ap (power R q) (add-zero i) ∙ sym (product_one R ring (power R q i))
  power-add q i (suc j) = ap (power R q) (add-suc i j) ∙ ap (λ x. product R x q) (power-add q i j) ∙ product_assoc R ring (power R q i) (power R q j) q

  -- two products, first to first and second to second
  product-product : (p q r s : Poly R) → product R (product R p q) (product R r s) ≡ product R (product R p r) (product R q s)
  product-product p q r s =
      product_assoc R ring p q (product R r s)
      ∙ ap (product R p) (sym (product_assoc R ring q r s) ∙ ap (λ x. product R x s) (product_comm R ring q r) ∙ product_assoc R ring r q s)
      ∙ sym (product_assoc R ring p r (product R q s))

  -- what stands with each power of a variable in a product
  cond_split : (t : Bool) (k : ℕ) (f : ℕ → ℕ → M) → cond t (split R k f) R.zero ≡ split R k (λ i j. cond t (f i j) R.zero)
  cond_split true k f = refl
  cond_split false k f = sym (split_none R ring k _ (λ i j s. refl))

  -- one of two parts of a number that is not zero is not zero
  apart : (x y k : ℕ) (a b : M) → x + y ≡ suc k → R.times (cond (eqb x 0) a R.zero) (cond (eqb y 0) b R.zero) ≡ R.zero
  apart x y k a b s =
      ⊎_elim (λ t. let none = eqb-true x 0 t in ap (R.times _) (cond-false (eqb y 0) b R.zero (ne_eqb y 0 (λ n. omega arith))) ∙ times_zero R ring _)
      (λ t. ap (λ c. R.times c (cond (eqb y 0) b R.zero)) (cond-false (eqb x 0) a R.zero t) ∙ zero-times R ring _)
      (cases_Bool (eqb x 0))

  collected-product : (v k : ℕ) (p s : Poly R) (e : List ℕ) → v < length e → collected R v k (product R p s) e ≡ split R k (λ i j. product R (collected R v i p) (collected R v j s) e)
  unfolding split splits
  collected-product v k p s [] h = absurd (omega arith)
  collected-product zero k p s (zero ∷ e) h = refl
  collected-product zero k p s (suc m ∷ e) h =
      cond-false (eqb (suc m) 0) _ R.zero (ne_eqb (suc m) 0 (λ n. omega arith))
      ∙ sym (split_none R ring k _ (λ i j t. split_none R ring (suc m) _ (λ x y w. splits-none R ring e _ (λ a b la lb ab. apart x y m (p (i ∷ a)) (s (j ∷ b)) w))))
  collected-product (suc v) k p s (m ∷ e) h =
      cond_split (eqb (exponent v e) 0) m _
      ∙ split_same R ring m _ _ (λ x y w. collected-product v k (λ a. p (x ∷ a)) (λ b. s (y ∷ b)) e (omega arith))
      ∙ split_split R ring m k _

  -- a constant is zero at a list with an exponent
  constant_elsewhere : (v : ℕ) (c : M) (e : List ℕ) → (exponent v e ≡ 0 → ⊥) → constant R c e ≡ R.zero
  constant_elsewhere v c e n = term_elsewhere R ring (zeros (length e)) c e (λ s. n (ap (exponent v) s ∙ exponent-zeros v (length e)))

  placed-none : (v : ℕ) (e : List ℕ) → exponent v e ≡ 0 → placed v 0 e ≡ e
  placed-none v e none = ap (λ i. placed v i e) (sym none) ∙ set-get_or e v 0

  module _ (n v : ℕ) (inside : v < n) where
    exponent-placed : (i : ℕ) (e : List ℕ) → length e ≡ n → exponent v (placed v i e) ≡ i
    exponent-placed i e l = get_or-set_same e v i 0 (omega arith)

    -- nothing stands with a power at which p is zero
    collected-none : (i : ℕ) (p : Poly R) → ((e : List ℕ) → length e ≡ n → exponent v e ≡ i → p e ≡ R.zero) → Agree R n (collected R v i p) (nought R)
    collected-none i p h e l =
        cond_both (eqb (exponent v e) 0) (p (placed v i e)) R.zero (λ x. x ≡ R.zero) (λ t. h (placed v i e) (length-set e v i ∙ l) (exponent-placed i e l)) (λ t. refl)

    collected-above : (B i : ℕ) (p : Poly R) → Bounded R n B p → B < i → Agree R n (collected R v i p) (nought R)
    collected-above B i p b h = collected-none i p (λ e l s. b e l (v, omega arith))

    -- where v has an exponent, p is zero
    abbrev Without : Poly R → Type 0
    Without p = (e : List ℕ) → length e ≡ n → (exponent v e ≡ 0 → ⊥) → p e ≡ R.zero

    collected_without : (p : Poly R) → Without p → Agree R n (collected R v 0 p) p
    collected_without p h e l =
        cond_both (eqb (exponent v e) 0) (p (placed v 0 e)) R.zero (λ x. x ≡ p e) (λ t. ap p (placed-none v e (eqb-true (exponent v e) 0 t))) (λ t. sym (h e l (eqb-false (exponent v e) 0 t)))

    without_constant : (c : M) → Without (constant R c)
    without_constant c e l = constant_elsewhere v c e

    without_others : (w : ℕ) → (w ≡ v → ⊥) → Without (variable R w)
    without_others w other e l some =
        term_elsewhere R ring (alone (length e) w) R.one e (λ s. some (ap (exponent v) s ∙ get_or-set_other (zeros (length e)) w v 1 0 (λ t. other (sym t)) ∙ exponent-zeros v (length e)))

    collected-variable-none : Agree R n (collected R v 0 (variable R v)) (nought R)
    collected-variable-none =
        collected-none 0 (variable R v) (λ e l s. term_elsewhere R ring (alone (length e) v) R.one e (λ t.
        let one = ap (exponent v) t ∙ exponent-placed 1 (zeros (length e)) (length_zeros (length e) ∙ l) in
        omega arith))

    collected-variable : Agree R n (collected R v 1 (variable R v)) (constant R R.one)
    collected-variable e l =
        cond_both (eqb (exponent v e) 0) (variable R v (placed v 1 e)) R.zero (λ x. x ≡ constant R R.one e)
        (λ t. ap (λ m. term R (alone m v) R.one (placed v 1 e)) (length-set e v 1) ∙ ap (λ b. cond b R.one R.zero) (alike_iff (placed v 1 e) (alone (length e) v) e (zeros (length e)) (back (eqb-true (exponent v e) 0 t)) (ap (placed v 1))))
        (λ t. sym (constant_elsewhere v R.one e (eqb-false (exponent v e) 0 t)))
      where
        back : exponent v e ≡ 0 → placed v 1 e ≡ alone (length e) v → e ≡ zeros (length e)
        back none s =
            sym (placed-none v e none) ∙ sym (set-set e v 1 0) ∙ ap (placed v 0) s ∙ set-set (zeros (length e)) v 1 0 ∙ placed-none v (zeros (length e)) (exponent-zeros v (length e))

    -- what stands with each power in a term
    collected-term-none : (i : ℕ) (a : List ℕ) (m : M) → (i ≡ exponent v a → ⊥) → Agree R n (collected R v i (term R a m)) (nought R)
    collected-term-none i a m other = collected-none i (term R a m) (λ e l s. term_elsewhere R ring a m e (λ h. other (sym s ∙ ap (exponent v) h)))

    collected-term : (a : List ℕ) (m : M) → length a ≡ n → Agree R n (collected R v (exponent v a) (term R a m)) (term R (placed v 0 a) m)
    collected-term a m la e l =
        cond_both (eqb (exponent v e) 0) (term R a m (placed v (exponent v a) e)) R.zero (λ x. x ≡ term R (placed v 0 a) m e)
        (λ t. ap (λ b. cond b m R.zero) (alike_iff (placed v (exponent v a) e) a e (placed v 0 a) (down (eqb-true (exponent v e) 0 t)) up))
        (λ t. sym (term_elsewhere R ring (placed v 0 a) m e (λ s. eqb-false (exponent v e) 0 t (ap (exponent v) s ∙ exponent-placed 0 a la))))
      where
        down : exponent v e ≡ 0 → placed v (exponent v a) e ≡ a → e ≡ placed v 0 a
        down none s = sym (placed-none v e none) ∙ sym (set-set e v (exponent v a) 0) ∙ ap (placed v 0) s

        up : e ≡ placed v 0 a → placed v (exponent v a) e ≡ a
        up s = ap (placed v (exponent v a)) s ∙ set-set a v 0 (exponent v a) ∙ set-get_or a v 0

    module _ (q : Poly R) where
      abbrev piece : Poly R → ℕ → Poly R
      piece p i = product R (collected R v i p) (power R q i)

      piece_none : (i : ℕ) (p : Poly R) → Agree R n (collected R v i p) (nought R) → Agree R n (piece p i) (nought R)
      piece_none i p h e l = product_agree R ring n _ (nought R) _ (power R q i) h (λ x lx. refl) e l ∙ ap (λ r. r e) (nought-product R ring (power R q i))

      bounds : (B C : ℕ) (p : Poly R) → Bounded R n B p → Bounded R n C p → Agree R n (substitution R v B p q) (substitution R v C p q)
      bounds B C p b c e l =
          sym (total-more (piece p) e B C (λ i h. piece_none i p (collected-above B i p b h) e l))
          ∙ ap (λ m. total R (piece p) m e) (add_comm B C)
          ∙ total-more (piece p) e C B (λ i h. piece_none i p (collected-above C i p c h) e l)

      sums : (B : ℕ) (p s : Poly R) → substitution R v B (sum R p s) q ≡ sum R (substitution R v B p q) (substitution R v B s q)
      sums B p s =
          fun_ext (λ e. total-same (piece (sum R p s)) (λ i. sum R (piece p i) (piece s i)) e B
          (λ i. ap (λ r. product R r (power R q i) e) (fun_ext (λ x. cond_plus R ring (eqb (exponent v x) 0) (p (placed v i x)) (s (placed v i x)))) ∙ ap (λ r. r e) (sum-product R ring (collected R v i p) (collected R v i s) (power R q i)))
          ∙ total-plus (piece p) (piece s) e B)

      without : (B : ℕ) (p : Poly R) → Without p → Agree R n (substitution R v B p q) p
      unfolding total power
      without B p h e l =
          ap (λ m. total R (piece p) m e) (sym (zero-add B))
          ∙ total-more (piece p) e 0 B (λ i b. piece_none i p (collected-none i p (λ x lx s. h x lx (λ z. omega arith))) e l)
          ∙ product_agree R ring n _ p _ (constant R R.one) (collected_without p h) (λ x lx. refl) e l
          ∙ ap (λ r. r e) (product_one R ring p)

      pub substitution_agree : (B : ℕ) (p s : Poly R) → Agree R n p s → Agree R n (substitution R v B p q) (substitution R v B s q)
      substitution_agree B p s h e l =
          total-same (piece p) (piece s) e B (λ i. product_agree R ring n (collected R v i p) (collected R v i s) (power R q i) (power R q i)
          (λ x lx. ap (λ y. cond (eqb (exponent v x) 0) y R.zero) (h (placed v i x) (length-set x v i ∙ lx))) (λ x lx. refl) e l)

      pub substitution-nought : (B : ℕ) → Agree R n (substitution R v B (nought R) q) (nought R)
      substitution-nought B = without B (nought R) (λ e l some. refl)

      pub substitution-term : (B : ℕ) (a : List ℕ) (m : M) → length a ≡ n → exponent v a ≤ B → Agree R n (substitution R v B (term R a m) q) (product R (term R (placed v 0 a) m) (power R q (exponent v a)))
      substitution-term B a m la h e l =
          total-one (piece (term R a m)) e B (exponent v a) h (λ i other. piece_none i (term R a m) (collected-term-none i a m other) e l)
          ∙ product_agree R ring n (collected R v (exponent v a) (term R a m)) (term R (placed v 0 a) m) (power R q (exponent v a)) (power R q (exponent v a)) (collected-term a m la) (λ x lx. refl) e l

      itself : Agree R n (substitution R v 1 (variable R v) q) q
      unfolding total power
      itself e l =
          ap₂ R.plus (piece_none 0 (variable R v) collected-variable-none e l)
          (product_agree R ring n _ (constant R R.one) _ q collected-variable (λ x lx. ap (λ r. r x) (one_product R ring q)) e l ∙ ap (λ r. r e) (one_product R ring q))
          ∙ zero-plus R ring (q e)

      piece_product : (k : ℕ) (p s : Poly R) → Agree R n (piece (product R p s) k) (joined (λ i j. product R (piece p i) (piece s j)) k)
      piece_product k p s e l =
          product_agree R ring n _ (joined (λ i j. product R (collected R v i p) (collected R v j s)) k) _ (power R q k) (λ x lx. collected-product v k p s x (omega arith)) (λ x lx. refl) e l
          ∙ split_product k (λ i j. product R (collected R v i p) (collected R v j s)) (power R q k) e
          ∙ split_same R ring k _ _ (λ i j t. ap (λ r. product R (product R (collected R v i p) (collected R v j s)) r e) (ap (power R q) (sym t) ∙ power-add q i j) ∙ ap (λ r. r e) (product-product (collected R v i p) (collected R v j s) (power R q i) (power R q j)))

      products : (B C : ℕ) (p s : Poly R) → Bounded R n B p → Bounded R n C s → Agree R n (substitution R v (B + C) (product R p s) q) (product R (substitution R v B p q) (substitution R v C s q))
      products B C p s b c e l =
          total-same (piece (product R p s)) (joined (λ i j. product R (piece p i) (piece s j))) e (B + C) (λ k. piece_product k p s e l)
          ∙ total_box e B C (λ i j. product R (piece p i) (piece s j))
          (λ i j h. product_agree R ring n _ (nought R) _ (piece s j) (piece_none i p (collected-above B i p b h)) (λ x lx. refl) e l ∙ ap (λ r. r e) (nought-product R ring (piece s j)))
          (λ i j h. product_agree R ring n _ (piece p i) _ (nought R) (λ x lx. refl) (piece_none j s (collected-above C j s c h)) e l ∙ ap (λ r. r e) (product-nought R ring (piece p i)))
          ∙ total-same (λ i. total R (λ j. product R (piece p i) (piece s j)) C) (λ i. product R (piece p i) (total R (piece s) C)) e B (λ i. ap (λ r. r e) (sym (product-total (piece p i) (piece s) C)))
          ∙ ap (λ r. r e) (sym (total-product (piece p) (total R (piece s) C) B))

      pub substituting : Substitutions R n v q
      substituting = record { bounds = bounds; sums = sums; products = products; constants = λ B c. without B (constant R c) (without_constant c); others = λ B w other. without B (variable R w) (without_others w other); itself = itself }
