-- Over a ring without zero divisors leading terms multiply, a nonzero factor cancels, and division by leading terms finds a quotient exactly if there is one. Assumes nothing.
--     product-leads    the product of two leading terms is the leading term of the product
--     dividing         what is proved of leading terms
use Rattle.std.proofs.Common.{◌≡◌, ℕ, false, ◌⊎◌, List, length, sym, refl, ap, ◌∙◌, subst, ap₂, ⊎_elim}
use Rattle.std.proofs.lemmas.Bool.{true≢false}
use Rattle.rings.specs.Members.{Ops, RingLaws, NoZeroDivisors}
use Rattle.formats.specs.Exponents.{added, covers, Below}
use Rattle.algebra.specs.Polynomials.{Poly, Agree, Finite, nought, term, sum, negative, product}
use Rattle.algebra.specs.Leading.{Leading, Quotient}
use Rattle.algebra.specs.Theorems.{LeadingTerms}
use Rattle.algebra.proofs.Exponents.{length_added, covers-added}
use Rattle.algebra.proofs.Orders.{below_trans, below_not, weigh, leading-list, one-leading}
use Rattle.algebra.proofs.Splits.{zero-plus, plus-plus, times_zero, zero-times, splits-none, splits-one}
use Rattle.algebra.proofs.Products.{product_agree, sum-product, nought-product}
use Rattle.algebra.proofs.Finite.{closing}

module _ (R : Ops) (ring : RingLaws R) where
  abbrev M : Type 0
  M = R.Member

  abbrev difference : Poly R → Poly R → Poly R
  difference p q = sum R p (negative R q)

  plus_cancel : (a b c : M) → R.plus a b ≡ R.plus a c → b ≡ c
  plus_cancel a b c e = sym (back b) ∙ ap (R.plus (R.negative a)) e ∙ back c
    where
      back : (x : M) → R.plus (R.negative a) (R.plus a x) ≡ x
      back x = sym (ring.plus_assoc (R.negative a) a x) ∙ ap (λ y. R.plus y x) (ring.plus_comm (R.negative a) a ∙ ring.plus_negative a) ∙ zero-plus R ring x

  -- a less b, and b again
  plus-difference : (a b : M) → R.plus b (R.plus a (R.negative b)) ≡ a
  plus-difference a b = ap (R.plus b) (ring.plus_comm a (R.negative b)) ∙ sym (ring.plus_assoc b (R.negative b) a) ∙ ap (λ x. R.plus x a) (ring.plus_negative b) ∙ zero-plus R ring a

  finite-difference : (n : ℕ) (p q : Poly R) → Finite R n p → Finite R n q → Finite R n (difference p q)
  finite-difference n p q f g = let c = closing R ring n in c.sums p (negative R q) f (c.negatives q g)

  -- a product with p is one with q and one with what p has more
  apart : (p q d : Poly R) (e : List ℕ) → product R p d e ≡ R.plus (product R q d e) (product R (difference p q) d e)
  apart p q d e =
      let whole : sum R q (difference p q) ≡ p = λ i x. plus-difference (p x) (q x) i in
      ap (λ s. product R s d e) (sym whole) ∙ ap (λ s. s e) (sum-product R ring q (difference p q) d)

  take_term : (n : ℕ) (p q d r t : Poly R) → Agree R n p (sum R (product R q d) r) → Agree R n p (sum R (product R (sum R q t) d) (sum R r (negative R (product R t d))))
  take_term n p q d r t h e l =
      let x = product R q d e in
      let y = product R t d e in
      let both : R.plus (R.plus x y) (R.plus (r e) (R.negative y)) ≡ R.plus x (r e) = plus-plus R ring x y (r e) (R.negative y) ∙ ap (R.plus (R.plus x (r e))) (ring.plus_negative y) ∙ ring.plus_zero (R.plus x (r e)) in
      h e l ∙ sym both ∙ ap (λ s. R.plus (s e) (R.plus (r e) (R.negative y))) (sym (sum-product R ring q t d))

  module _ (whole : NoZeroDivisors R) (n : ℕ) where
    pub product-leads : (p q : Poly R) (a b : List ℕ) → Leading R n p a → Leading R n q b → Leading R n (product R p q) (added a b) × (product R p q (added a b) ≡ R.times (p a) (q b))
    product-leads p q a b h k = (record { long = long; there = λ z. ⊎_elim h.there k.there (whole (p a) (q b) (sym value ∙ z)); above = above }, value)
      where
        long : length (added a b) ≡ n
        long = length_added a b (h.long ∙ sym k.long) ∙ k.long

        -- a pair of lists of which one is above its leading list
        high : (x y : List ℕ) → length x ≡ n → length y ≡ n → Below a x ⊎ Below b y → R.times (p x) (q y) ≡ R.zero
        high x y lx ly =
            ⊎_elim
            (λ u. ap (λ z. R.times z (q y)) (h.above x lx u) ∙ zero-times R ring (q y))
            (λ u. ap (R.times (p x)) (k.above y ly u) ∙ times_zero R ring (p x))

        value : product R p q (added a b) ≡ R.times (p a) (q b)
        value = splits-one R ring (added a b) a b (λ x y. R.times (p x) (q y)) (h.long ∙ sym long) (k.long ∙ sym long) refl others
          where
            others : (x y : List ℕ) → length x ≡ length (added a b) → length y ≡ length (added a b) → added x y ≡ added a b → (x ≡ a → ⊥) → R.times (p x) (q y) ≡ R.zero
            others x y lx ly s apart =
                ⊎_elim
                (high x y (lx ∙ long) (ly ∙ long))
                (⊎_elim (λ both. absurd (apart both.0)) (λ l. absurd (below_not (added a b) (subst (λ z. Below z (added a b)) s l))))
                (weigh n a b x y h.long k.long (lx ∙ long) (ly ∙ long))

        above : (e : List ℕ) → length e ≡ n → Below (added a b) e → product R p q e ≡ R.zero
        above e le u = splits-none R ring e (λ x y. R.times (p x) (q y)) all
          where
            all : (x y : List ℕ) → length x ≡ length e → length y ≡ length e → added x y ≡ e → R.times (p x) (q y) ≡ R.zero
            all x y lx ly s =
                let same : (x ≡ a) × (y ≡ b) → ⊥ = λ both. below_not (added a b) (subst (Below (added a b)) (sym s ∙ ap₂ added both.0 both.1) u) in
                let less : Below (added x y) (added a b) → ⊥ = λ l. below_not e (below_trans e (added a b) e (subst (λ z. Below z (added a b)) s l) u) in
                ⊎_elim (high x y (lx ∙ le) (ly ∙ le)) (⊎_elim (λ m. absurd (same m)) (λ m. absurd (less m))) (weigh n a b x y h.long k.long (lx ∙ le) (ly ∙ le))

    agree_leads : (p q : Poly R) (a : List ℕ) → Agree R n p q → Leading R n p a → Leading R n q a
    agree_leads p q a h l = record { long = l.long; there = λ z. l.there (h a l.long ∙ z); above = λ e le u. sym (h e le) ∙ l.above e le u }

    cancel : (p q d : Poly R) → Finite R n p → Finite R n q → Finite R n d → (Agree R n d (nought R) → ⊥) → Agree R n (product R p d) (product R q d) → Agree R n p q
    cancel p q d fp fq fd some same = ⊎_elim (λ z. absurd (some z)) (λ b. ⊎_elim equal (λ a. absurd (unequal a.0 b.0 a.1 b.1)) (leading-list R ring n r (finite-difference n p q fp fq))) (leading-list R ring n d fd)
      where
        r : Poly R
        r = difference p q

        none : Agree R n (product R r d) (nought R)
        none e l = plus_cancel (product R q d e) (product R r d e) R.zero (sym (apart p q d e) ∙ same e l ∙ sym (ring.plus_zero (product R q d e)))

        equal : Agree R n r (nought R) → Agree R n p q
        equal z e l = sym (plus-difference (p e) (q e)) ∙ ap (R.plus (q e)) (z e l) ∙ ring.plus_zero (q e)

        unequal : (a b : List ℕ) → Leading R n r a → Leading R n d b → ⊥
        unequal a b h k = let m = (product-leads r d a b h k).0 in m.there (none (added a b) m.long)

    no_quotient : (p q d r s : Poly R) (a b : List ℕ) → Finite R n q → Agree R n p (sum R (product R q d) r) → Leading R n r a → Leading R n d b → (covers a b ≡ false) ⊎ ((m : R.Member) → R.times m (d b) ≡ r a → ⊥) → Quotient R n p d s → ⊥
    no_quotient p q d r s a b fq parts h k refused quotient = ⊎_elim nothing (λ c. something c.0 c.1) (leading-list R ring n u (finite-difference n s q quotient.finite fq))
      where
        u : Poly R
        u = difference s q

        rest : Agree R n (product R u d) r
        rest e l = plus_cancel (product R q d e) (product R u d e) (r e) (sym (apart s q d e) ∙ quotient.times e l ∙ parts e l)

        nothing : Agree R n u (nought R) → ⊥
        nothing z = h.there (sym (rest a h.long) ∙ product_agree R ring n u (nought R) d d z (λ e l. refl) a h.long ∙ ap (λ s. s a) (nought-product R ring d))

        something : (c : List ℕ) → Leading R n u c → ⊥
        something c f =
            let m = product-leads u d c b f k in
            let same = one-leading R n r a (added c b) h (agree_leads (product R u d) r (added c b) rest m.0) in
            ⊎_elim
            (λ t. true≢false (sym (covers-added c b (f.long ∙ sym k.long)) ∙ ap (λ x. covers x b) (sym same) ∙ t))
            (λ t. t (u c) (sym m.1 ∙ rest (added c b) m.0.long ∙ ap r (sym same)))
            refused

    pub dividing : LeadingTerms R n
    dividing = record {
      leads = leading-list R ring n;
      products = product-leads;
      cancels = cancel;
      step = λ p q d r t c. take_term n p q d r (term R t c);
      done = λ p q d r f h z. record { finite = f; times = λ e l. sym (h e l ∙ ap (R.plus (product R q d e)) (z e l) ∙ ring.plus_zero (product R q d e)) };
      stuck = no_quotient;
    }
